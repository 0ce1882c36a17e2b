-- What is said of a start at a later frame of its run, and how runs grow.
use Rattle.std.specs.Prelude.{◌≡◌, ℕ, ◌+◌, nat_lt, nat_le, Bool, ◌&&◌, Some, is_none, List, [], ◌∷◌, ◌++◌, length, slice_get}
use Rattle.tm_reassembly.specs.Chain.{ChainMember, Run, Unended}
use Rattle.tm_reassembly.specs.Parts.{text, reach_of, is_long, begins_packet, open_after, agrees, breaker}

-- whether a packet ends in a frame that it reaches into
abbrev pub ends_in : ℕ → ℕ → ChainMember → Bool
ends_in reach at m = nat_lt at reach && nat_le reach (at + length m.field)

-- whether the start is open at the frame, whether the frame agrees with it, whether its packet is long there, and whether it is whole
-- with its last octet there
pub record Verdict : Type 0 where
  pub opened : Bool
  pub agreed : Bool
  pub long : Bool
  pub completed : Bool

module _ (limit : ℕ) where
  -- whether a start is whole: it begins a packet that is read, its text ends it, and each later frame at which it is open agrees with it
  abbrev pub is_whole : List ℕ → List ChainMember → Bool
  is_whole start later =
      begins_packet limit start
      && (is_none (breaker limit (reach_of start later) (length start) later) && nat_le (reach_of start later) (length (start ++ text later)))

  -- for a start, by the frames between its own and m, by m, and by the frames after m
  abbrev pub verdict : List ℕ → List ChainMember → ChainMember → List ChainMember → Verdict
  verdict start between m later =
      record {
        opened = begins_packet limit start && open_after limit (reach_of start (between ++ m ∷ later)) (length start) between;
        agreed = agrees limit (reach_of start (between ++ m ∷ later)) (length start + length (text between)) m;
        long = is_long limit (reach_of start (between ++ m ∷ later)) ((length start + length (text between)) + length m.field);
        completed = is_whole start (between ++ m ∷ later)
            && ends_in (reach_of start (between ++ m ∷ later)) (length start + length (text between)) m;
      }

  -- whether the start is whole with its last octet in its own frame
  abbrev pub completed_at_once : List ℕ → List ChainMember → Bool
  completed_at_once start later = is_whole start later && nat_le (reach_of start later) (length start)

-- the first of these runs goes on from a run that nothing ended
abbrev pub GoesOn : Run → List Run → Type 0
GoesOn r [] = ⊥
GoesOn r (q ∷ qs) = (more : List ChainMember) × (q.members ≡ r.members ++ more) × (r.end ≡ Unended)

-- runs, and then what more frames make of them: the ended ones are as they were, and the last one goes on
abbrev pub GrowFrom : Run → List Run → List Run → Type 0
GrowFrom r [] qs = GoesOn r qs
GrowFrom r (next ∷ rs) [] = ⊥
GrowFrom r (next ∷ rs) (q ∷ qs) = (q ≡ r) × GrowFrom next rs qs

abbrev pub Grow : List Run → List Run → Type 0
Grow [] qs = ⊥
Grow (r ∷ rs) qs = GrowFrom r rs qs

-- The run at i of these runs begins with the frames up to m and those after it. Whatever more frames it has, the verdict on each
-- start of the frame f is at m as it was.
abbrev pub IsSettledIn : List Run → ℕ → List ChainMember → ChainMember → List ChainMember → ChainMember → List ChainMember → Type 0
IsSettledIn qs i before f between m later =
    (q : Run) × (more : List ChainMember) × (slice_get qs i ≡ Some q)
    × (q.members ≡ before ++ f ∷ (between ++ m ∷ (later ++ more)))
    × ((limit : ℕ) (start : List ℕ) → verdict limit start between m (later ++ more) ≡ verdict limit start between m later)
