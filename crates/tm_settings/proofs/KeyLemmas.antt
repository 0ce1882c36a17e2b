-- The first unknown key of a sorted table is the least.
use Rattle.std.proofs.Common.{◌≡◌, not, List, [], ◌∷◌, Option, Some, None, option_map, String, Global, Bor, Less, refl, inl, inr, string_bytes}
use Rattle.std.specs.Prelude.{find, option_copied}
use Rattle.std.proofs.lemmas.Bool.{cases_Bool}
use Rattle.std.proofs.lemmas.Cmp.{nat_list_cmp_total}
use Rattle.std.specs.List.{AllByRecursion}
use Rattle.std.specs.List.Sorted.{IsStrictlySortedBy}
use Rattle.std.specs.Map.{keys_of}
use Rattle.std.specs.String.{string_cmp}
use Rattle.toml.specs.View.{members_view}
use Rattle.toml.specs.declared.value.Value.{Value}
use Rattle.tm_faults.specs.Keys.{is_name}
use Rattle.tm_settings.specs.Settings.{least, least_of, unknown_keys}

-- a key below those of the entries is the least
least_of-below : (k : String Global) (es : List (String Global × Value)) → AllByRecursion (λ y. string_cmp k y ≡ Less) (keys_of es)
    → least_of (string_bytes k) (unknown_keys (members_view es)) ≡ string_bytes k
least_of-below k [] h = refl
least_of-below k (e ∷ es) h =
    elim (cases_Bool (is_name (string_bytes e.0))) [
      | inl known ↦ rw known (least_of-below k es h.1)
      | inr other ↦ rw (other, nat_list_cmp_total.antisymm (string_bytes e.0) (string_bytes k), h.0) (least_of-below k es h.1)
    ]

pub first-least : (es : List (String Global × Value)) → IsStrictlySortedBy string_cmp (keys_of es)
    → option_map string_bytes (find (λ k. not (is_name (string_bytes k))) (keys_of es)) ≡ least (unknown_keys (members_view es))
unfolding IsStrictlySortedBy
first-least [] h = refl
first-least (e ∷ es) h =
    elim (cases_Bool (is_name (string_bytes e.0))) [
      | inl known ↦ rw known (first-least es h.1)
      | inr other ↦ rw (other, least_of-below e.0 es h.0)
    ]

pub bytes_of_ref : (r : Option (Bor (String Global))) → option_map (λ x. string_bytes x.now) r ≡ option_map string_bytes (option_copied r)
bytes_of_ref None = refl
bytes_of_ref (Some x) = refl
