-- The versions of checkpoints, and the state in each.
use Rattle.std.proofs.Common.{◌≡◌, ℕ, ◌+◌, ◌≤◌, Ok, Err, Result, Option, Some, List, ◌++◌, length, take, refl, sym, ap, ◌∙◌, arith}
use Rattle.std.proofs.lemmas.Bool.Decides.{nat_tests}
use Rattle.std.proofs.lemmas.Option.{same_Some}
use Rattle.tm_bits.specs.Bits.{AreOctets}
use Rattle.tm_reassembly.specs.Checkpoint.{DecodedState, spelled_octets}
use Rattle.tm_reassembly.specs.declared.fault.StateFault.{StateFault}
use Rattle.tm_frame.specs.Rules.{Rules}
use Rattle.tm_reassembly.specs.State.{State}
use Rattle.tm_reassembly.specs.Valid.{IsValidState}
use Rattle.tm_reassembly.proofs.Spelled.{spelled-again, old-spelled-again}
use Rattle.tm_reassembly.proofs.Spelling.{read-again, old-read-again}
use Rattle.tm_checkpoint.specs.declared.version.Version.{Version}
use Rattle.tm_checkpoint.specs.declared.version.Version.TheVariants.{One, Three}
use Rattle.tm_checkpoint.specs.Checkpoints.{form_of, version_named, kept_state, head_octets, state_octets, state_in}

-- ---- versions

pub named : (v : Version) → version_named (form_of v).octet ≡ Some v
named One = refl
named _ = refl

-- the octet that names a version is its own
pub own_octet : (n : ℕ) (v : Version) → version_named n ≡ Some v → n ≡ (form_of v).octet
own_octet n One e = grind (arith, nat_tests)
own_octet n _ e = grind (arith, nat_tests)

-- and tells it from the others
pub told_apart : (u v : Version) → (form_of u).octet ≡ (form_of v).octet → u ≡ v
told_apart u v e = same_Some u v (sym (named u) ∙ ap version_named e ∙ named v)

-- the octets around the state are fewer than the fewest of a checkpoint
pub around_fits : (v : Version) → (7 + (form_of v).settings ≤ (form_of v).least) × (33 ≤ (form_of v).least)
around_fits One = (omega arith, omega arith)
around_fits _ = (omega arith, omega arith)

pub length-head : (v : Version) (s : Rules) → length (head_octets v s) ≡ 5 + (form_of v).settings
length-head One s = refl
length-head _ s = refl

-- ---- the state

-- what a version keeps of a state is spelled as that is
pub kept_spelled : (v : Version) (s : State) → state_octets v (kept_state v s) ≡ state_octets v s
kept_spelled One s = refl
kept_spelled _ s = refl

pub state_again : (v : Version) (rules : Rules) (s : State) (rest : List ℕ) → IsValidState rules s
    → state_in v rules (state_octets v s ++ rest) ≡ Ok (record { state = kept_state v s; octets = length (state_octets v s) })
state_again Three rules s rest h = read-again rules s rest h
state_again _ rules s rest h = old-read-again rules s rest h

-- octets that are read are the spelling of what they are read as, which has just what the version keeps
pub record IsSpelled (v : Version) (octets : List ℕ) (d : DecodedState) : Type 0 where
  pub inside : d.octets ≤ length octets
  pub same : take d.octets octets ≡ state_octets v d.state
  pub kept : kept_state v d.state ≡ d.state

pub state_spelled : (v : Version) (rules : Rules) (octets : List ℕ) (d : DecodedState) → AreOctets octets → state_in v rules octets ≡ Ok d → IsSpelled v octets d
state_spelled Three rules octets d h e = let (inside, same) = spelled-again rules octets d h e in record { inside = inside; same = same; kept = refl }
state_spelled _ rules octets d h e =
    let (inside, same, none) = old-spelled-again rules octets d h e in
    record { inside = inside; same = same; kept = ap (λ (m : Option ℕ). record d.state { master = m }) (sym none) }

-- a spelling isn't longer than the octets that are checked
pub spelled_inside : (v : Version) (rules : Rules) (octets : List ℕ) (read : ℕ) → AreOctets octets → spelled_octets (state_in v rules octets) ≡ Ok read
    → read ≤ length octets
spelled_inside v rules octets read h e = within (state_in v rules octets) refl e
  where
    within : (r : Result DecodedState StateFault) → state_in v rules octets ≡ r → spelled_octets r ≡ Ok read → read ≤ length octets
    within (Ok d) is same = let one : d.octets ≡ read = cc in omega (arith, (state_spelled v rules octets d h is).inside)
    within (Err found) is same = absurd (cc)
