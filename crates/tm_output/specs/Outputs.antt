-- Two outputs that grow by pieces, and the one place where writing may stop. The first, `out`, is a device or a set of files: what it
-- grows by is a list of any kind.
use Rattle.std.specs.Prelude.{◌≡◌, ◌≢◌, ◌⊎◌, ℕ, Bool, true, false, List, [], ◌∷◌, ◌++◌, map, Option, Result, MatchResult}
use Rattle.std.specs.Io.KnownBytes.{Appends}
use Rattle.tm_devices.specs.Devices.{raised}
use Rattle.tm_faults.specs.declared.run.RunFault.{RunFault}
use Rattle.tm_faults.specs.declared.run.RunFault.TheVariants.{Read, Write, Report, ShortRecording, TooMany, NoMemory}

-- what belongs to `out`, and a text for the report
pub record Piece (A : Type 0) : Type 0 where
  pub out : List A
  pub report : List ℕ

abbrev pub outs : {A : Type 0} → List (Piece A) → List A
outs [] = []
outs (p ∷ ps) = p.out ++ outs ps

abbrev pub reports : {A : Type 0} → List (Piece A) → List ℕ
reports [] = []
reports (p ∷ ps) = p.report ++ reports ps

-- a line that belongs to `out`, and lines; nothing of them is for the report
abbrev pub line_piece : List ℕ → Piece ℕ
line_piece line = record { out = line; report = [] }

abbrev pub line_pieces : List (List ℕ) → List (Piece ℕ)
line_pieces lines = map line_piece lines

-- The pieces up to one place: nothing of no pieces. Else a prefix of what belongs to `out` of the first, and nothing for the
-- report. Or all of that and a prefix of its report. Or both whole, and then a cut of the others.
abbrev pub Cut : {A : Type 0} → List (Piece A) → List A → List ℕ → Type 0
Cut [] out report = (out ≡ []) × (report ≡ [])
Cut {A} (p ∷ ps) out report =
    ((rest : List A) × (p.out ≡ out ++ rest) × (report ≡ []))
    ⊎ (((rest : List ℕ) × (out ≡ p.out) × (p.report ≡ report ++ rest))
    ⊎ ((more : List A) × (others : List ℕ) × (out ≡ p.out ++ more) × (report ≡ p.report ++ others) × Cut ps more others))

-- what is known of the two outputs: what they hold, where they tell it, and how many calls of each have failed
pub record View (K : Type 0) : Type 0 where
  pub out : K
  pub report : Option (List ℕ)
  pub out_failures : ℕ
  pub report_failures : ℕ

abbrev pub view : {K : Type 0} → K → Option (List ℕ) → ℕ → ℕ → View K
view out report out_failures report_failures =
    record { out = out; report = report; out_failures = out_failures; report_failures = report_failures }

-- what no call changes of a drain behind a reference: the reference's name, and the drain's number
pub record FixedDrain : Type 0 where
  pub name : ℕ
  pub number : ℕ

-- no call of either output failed
abbrev pub SameCounts : {K : Type 0} → View K → View K → Type 0
SameCounts old new = (new.out_failures ≡ old.out_failures) × (new.report_failures ≡ old.report_failures)

-- what writing may answer: `Write` where a call of `out` failed, `Report` where one of the report did, or out of memory
abbrev pub CausedByOutput : {K : Type 0} → View K → View K → RunFault → Type 0
CausedByOutput old new Read = ⊥
CausedByOutput old new Write = (new.out_failures ≡ raised old.out_failures) × (new.report_failures ≡ old.report_failures)
CausedByOutput old new Report = (new.out_failures ≡ old.out_failures) × (new.report_failures ≡ raised old.report_failures)
CausedByOutput old new ShortRecording = ⊥
CausedByOutput old new TooMany = ⊥
CausedByOutput old new NoMemory = SameCounts old new

-- How an outlet is written: memory is taken for what belongs there; and it may wait there for a flush.
pub record Buffering : Type 0 where
  pub memory : Bool
  pub flush : Bool

-- octets go as they are, and a packet's line is made in a room of its own
abbrev pub octets_buffering : Buffering
octets_buffering = record { memory = false; flush = true }

-- the head of rows, and each row, are made in memory
abbrev pub lines_buffering : Buffering
lines_buffering = record { memory = true; flush = true }

-- memory is taken for something of this piece: its text for the report, or what belongs to `out`, where that takes memory
abbrev pub TakesMemory : {A : Type 0} → Buffering → Piece A → Type 0
TakesMemory buffering piece = ((buffering.memory ≡ true) × (piece.out ≢ [])) ⊎ (piece.report ≢ [])

module _ {A K : Type 0} (grows : K → K → List A → Type 0) where
  -- the pieces were written, whole
  abbrev pub AppendsPieces : View K → View K → List (Piece A) → Type 0
  AppendsPieces old new pieces = grows old.out new.out (outs pieces) × Appends old.report new.report (reports pieces)

  -- a part of what belongs to `out` was written: a prefix, a proper one if there is any
  abbrev pub PutsPart : K → K → List A → Type 0
  PutsPart old new all = (prefix rest : List A) × (all ≡ prefix ++ rest) × (all ≢ [] → rest ≢ []) × grows old new prefix

  -- they were written up to one place
  abbrev pub AppendsCut : View K → View K → List (Piece A) → Type 0
  AppendsCut old new pieces =
      (out : List A) × (report : List ℕ) × Cut pieces out report × grows old.out new.out out × Appends old.report new.report report

-- all pieces were written, and no call failed
pub record Took {A K : Type 0} (grows : K → K → List A → Type 0) (old new : View K) (pieces : List (Piece A)) : Type 0 where
  pub whole : AppendsPieces grows old new pieces
  pub counts : SameCounts old new

-- writing stopped in one piece: those before it were written whole, and this holds of it
pub record StopsAtPiece {A K : Type 0} (grows : K → K → List A → Type 0) (stop : View K → Piece A → Type 0) (old : View K)
    (pieces : List (Piece A)) : Type 0 where
  pub done : List (Piece A)
  pub next : Piece A
  pub more : List (Piece A)
  pub split : pieces ≡ done ++ next ∷ more
  pub mid : View K
  pub whole : AppendsPieces grows old mid done
  pub stopped : stop mid next

module _ {A K : Type 0} (grows : K → K → List A → Type 0) where
  -- nothing was written of a piece for which memory is needed
  abbrev pub WantsMemory : Buffering → View K → View K → List (Piece A) → Type 0
  WantsMemory buffering old new pieces = StopsAtPiece grows (λ mid next. (new ≡ mid) × TakesMemory buffering next) old pieces

  -- a part of what belongs to `out` was written of a piece, and nothing of it for the report
  abbrev pub RefusesPut : View K → View K → List (Piece A) → Type 0
  RefusesPut old new pieces = StopsAtPiece grows (λ mid next. PutsPart grows mid.out new.out next.out × Appends mid.report new.report []) old pieces

-- writing stopped at one place of the pieces, with this fault
pub record Stopped {A K : Type 0} (grows : K → K → List A → Type 0) (buffering : Buffering) (old new : View K) (pieces : List (Piece A)) (fault : RunFault)
    : Type 0 where
  pub cut : AppendsCut grows old new pieces
  pub cause : CausedByOutput old new fault
  pub memory : fault ≡ NoMemory → WantsMemory grows buffering old new pieces
  pub refused : fault ≡ Write → buffering.flush ≡ false → RefusesPut grows old new pieces

-- writing all pieces, or up to one place
abbrev pub Written : {A K T : Type 0} → (K → K → List A → Type 0) → Buffering → View K → View K → List (Piece A) → Result T RunFault → Type 0
Written grows buffering old new pieces r = MatchResult r (λ _. Took grows old new pieces) (Stopped grows buffering old new pieces)
