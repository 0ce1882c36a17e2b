-- What an error of lengths tells of the text.
use Rattle.std.proofs.Common.{◌≡◌, ◌≢◌, ℕ, true, false, List, [], length, refl, ◌∙◌, None, Some}
use Rattle.std.specs.Prelude.{Option}
use Rattle.csv.specs.Machine.{Read, next_record}
use Rattle.csv.specs.Reading.{ExplainsRead, NextIs, ReadsNext, TookRecord, pending_of, source_of}
use Rattle.csv.specs.declared.parser.Config.{Config}
use Rattle.csv.specs.declared.parser.State.{State}
use Rattle.csv.specs.declared.reader.Reader.{Reader}
use Rattle.csv.specs.declared.error.ErrorKind.{ErrorKind}
use Rattle.csv.specs.declared.error.ErrorKind.TheVariants as kind
use Rattle.tm_fields.specs.code.Reading.{fault_of_kind}
use Rattle.tm_faults.specs.declared.definition.DefinitionFault.TheVariants.{Csv}

-- the record that was read has another length than was expected
pub cause : {R : Type 0} (rem : R → Option (List ℕ)) (a b : Reader R) (k : ErrorKind) → fault_of_kind k ≡ Csv → ExplainsRead rem a b false k
    → (x : ℕ) × (fields : List (List ℕ)) × (a.expected ≡ Some x) × (x ≢ length fields) × TookRecord rem a b fields
cause rem a b (kind.UnequalLengths pos expected len) e h = (expected, h.3, h.1, λ q. h.2 (q ∙ h.5), h.4)
cause rem a b _ e h = absurd (cc e)

next_is : (o : Option Read) (f : List (List ℕ)) (s : State) (z : List ℕ) → NextIs o true f s z → (p : Read) × (o ≡ Some p) × (f ≡ p.0)
next_is None f s z n = absurd (cc n)
next_is (Some p) f s z n = (p, refl, n.1)

took : (cfg : Config) (s s2 : State) (y : List ℕ) (after : Option (List ℕ)) (f : List (List ℕ)) → ReadsNext cfg s (Some y) after true f s2
    → (p : Read) × (next_record cfg s [] [] y ≡ Some p) × (f ≡ p.0)
took cfg s s2 y None f h = absurd h
took cfg s s2 y (Some z) f h = next_is (next_record cfg s [] [] y) f s2 z h

-- where the bytes are known, that record is the next of them
pub took_next : {R : Type 0} (rem : R → Option (List ℕ)) (a b : Reader R) (cfg : Config) (y : List ℕ) (f : List (List ℕ)) → a.config ≡ cfg → source_of rem a ≡ Some y → TookRecord rem a b f
    → (p : Read) × (next_record cfg a.state [] [] y ≡ Some p) × (f ≡ p.0)
took_next rem a b cfg y f ec ex r = took cfg a.state b.state y (pending_of (rem b.rdr) b) f (rw (ec, ex) at r)
