-- What a sink of texts does with an item.
use Rattle.std.specs.Prelude.{◌≡◌, List, [], ◌∷◌, Result}
use Rattle.tm_items.specs.Item.{Item}
use Rattle.tm_devices.specs.declared.device.Drain as drain
use Rattle.tm_faults.specs.declared.run.RunFault.{RunFault}
use Rattle.tm_output.specs.declared.outlet.Outlet as outlet
use Rattle.tm_output.specs.declared.output.Output.{Output}
use Rattle.tm_output.specs.Outputs.{Buffering, Took, Stopped, Written}
use Rattle.tm_output.specs.Pieces.{Texts, noted, piece_of}
use Rattle.tm_output.specs.Seen.{OutputState, fixture, output_both}
use Rattle.tm_output.specs.Totals.{totals_with_item}

-- what stays the same says what is given of an item
module _ {A K M : Type 0} (grows : K → K → List A → Type 0) (text : M → Texts A) (buffering : Buffering) where
  -- it takes an item: its two texts were written, and it is counted
  pub record Takes (s : OutputState K M) (x : Item) (t : OutputState K M) : Type 0 where
    pub same : t.fixture ≡ s.fixture
    pub noted_is : t.entries ≡ noted s.entries x
    pub took : Took grows s.view t.view (piece_of (text s.fixture.texts) s.entries x ∷ [])
    pub totals_is : t.totals ≡ totals_with_item (text s.fixture.texts) s.entries s.totals x

  -- it refuses an item: writing stopped at one place of its two texts
  pub record Refuses (s : OutputState K M) (x : Item) (fault : RunFault) (t : OutputState K M) : Type 0 where
    pub same : t.fixture ≡ s.fixture
    pub stopped : Stopped grows buffering s.view t.view (piece_of (text s.fixture.texts) s.entries x ∷ []) fault

-- an output has noted an item, and what stays the same does
abbrev pub NotesItem : {O V : Type 0} (o : outlet.Ghosts O) → drain.Ghosts V → Output O V → Output O V → Item → Type 0
NotesItem o v old new x = (fixture o v new ≡ fixture o v old) × (new.tracker.now ≡ noted old.tracker.now x)

-- it has counted an item
abbrev pub CountsItem : {O V : Type 0} (o : outlet.Ghosts O) → drain.Ghosts V → Output O V → Output O V → Item → Type 0
CountsItem o v old new x = new.totals ≡ totals_with_item (o.text (o.fixed old.outlet.now)) old.tracker.now old.totals x

-- it has written the two texts of an item, or writing stopped at one place of them
abbrev pub WritesItem : {O V T : Type 0} (o : outlet.Ghosts O) → drain.Ghosts V → Output O V → Output O V → Item → Result T RunFault → Type 0
WritesItem o v old new x r =
    Written o.grows o.buffering (output_both o v old) (output_both o v new) (piece_of (o.text (o.fixed old.outlet.now)) old.tracker.now x ∷ []) r
