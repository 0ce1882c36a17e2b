-- No checkpoint begins another.
use Rattle.std.proofs.Common.{◌≡◌, ℕ, ◌+◌, ◌*◌, ◌^◌, ◌/◌, ◌%◌, Bool, true, false, Ok, Result, List, [], ◌∷◌, ◌++◌, length, take, drop, refl, sym, ap, subst, ◌∙◌, arith, add-one, length-append, append_assoc}
use Rattle.std.specs.Prelude.{if◌then◌else◌, slice_index}
use Rattle.std.proofs.lemmas.Bool.{eqb-true}
use Rattle.std.proofs.lemmas.List.{append-nil, append_cancel_left, nil_from_length}
use Rattle.tm_frame.specs.declared.layout.LayoutParts.{LayoutParts}
use Rattle.tm_frame.specs.declared.layout.Presence.{Presence}
use Rattle.tm_frame.specs.declared.layout.Presence.TheVariants.{Flag, Always, Never}
use Rattle.tm_packet.specs.Spelling as sequence
use Rattle.tm_packet.specs.Valid as valid
use Rattle.tm_packet.proofs.SpellingLemmas as sequence_written
use Rattle.tm_frame.specs.Channels.{mask_from, mask_of}
use Rattle.tm_reassembly.specs.Checkpoint as reassembly
use Rattle.tm_frame.specs.Rules.{Rules}
use Rattle.tm_reassembly.specs.State.{State}
use Rattle.tm_reassembly.specs.Valid.{IsValidState}
use Rattle.tm_checkpoint.specs.declared.version.Version.{Version}
use Rattle.tm_checkpoint.specs.declared.version.Version.TheVariants.{One}
use Rattle.tm_checkpoint.specs.Works.{IsWork, Work}
use Rattle.tm_checkpoint.specs.Checkpoints.{form_of, tells, kept_state, kept_in, presence_octet, three_octets, settings_octets, head_octets, state_octets, spelled_in, state_in}
use Rattle.tm_packet.specs.Merge.{Entries}
use Rattle.tm_checkpoint.proofs.CheckpointLemmas.{body, check, behind_head}
use Rattle.tm_checkpoint.proofs.VersionLemmas.{told_apart, kept_spelled, state_again}

same_Ok : {T E : Type 0} (x y : T) → ◌≡◌ {A = Result T E} (Ok x) (Ok y) → x ≡ y
same_Ok x y e = cc

-- ---- the settings are told by their octets

presence_told : (p q : Presence) → presence_octet p ≡ presence_octet q → p ≡ q
presence_told Flag Flag e = refl
presence_told Always Always e = refl
presence_told Never Never e = refl
presence_told _ _ e = absurd (omega arith)

abbrev truth_octet : Bool → ℕ
truth_octet b = if b then 1 else 0

truth_told : (a b : Bool) → truth_octet a ≡ truth_octet b → a ≡ b
truth_told true true e = refl
truth_told false false e = refl
truth_told _ _ e = absurd (omega arith)

mask_twice : (c : ℕ) (xs : List Bool) → mask_from (c + 1) xs ≡ 2 * mask_from c xs
mask_twice c [] = omega arith
mask_twice c (true ∷ xs) = let power : 2 ^ (c + 1) ≡ 2 * 2 ^ c = rw add-one (omega arith) in omega (arith, mask_twice (c + 1) xs)
mask_twice c (false ∷ xs) = omega (arith, mask_twice (c + 1) xs)

mask_told : (xs ys : List Bool) → length xs ≡ length ys → mask_of xs ≡ mask_of ys → xs ≡ ys
mask_told [] [] l e = refl
mask_told (true ∷ xs) (true ∷ ys) l e =
    ap (λ (zs : List Bool). true ∷ zs) (mask_told xs ys (omega arith) (omega (arith, mask_twice 0 xs, mask_twice 0 ys)))
mask_told (false ∷ xs) (false ∷ ys) l e =
    ap (λ (zs : List Bool). false ∷ zs) (mask_told xs ys (omega arith) (omega (arith, mask_twice 0 xs, mask_twice 0 ys)))
mask_told (x ∷ xs) (y ∷ ys) l e = absurd (omega (arith, mask_twice 0 xs, mask_twice 0 ys))
mask_told _ _ l e = absurd (omega arith)

number_told : (a b : ℕ) → a / 256 ≡ b / 256 → a % 256 ≡ b % 256 → a ≡ b
number_told a b e f = omega arith

three_told : (a b : ℕ) → a / 65536 ≡ b / 65536 → (a % 65536) / 256 ≡ (b % 65536) / 256 → (a % 65536) % 256 ≡ (b % 65536) % 256 → a ≡ b
three_told a b e f g = omega arith

abbrev layout_of : ℕ → ℕ → ℕ → ℕ → Presence → Presence → Bool → LayoutParts
layout_of craft long before after secondary ocf control =
    record { frame_length = long; skip_before = before; skip_after = after; spacecraft = craft; secondary = secondary; ocf = ocf; error_control = control }

-- the first twelve octets tell all but the limit on packets
twelve_told : (s t : Rules) → length s.channels ≡ length t.channels → take 12 (settings_octets s) ≡ take 12 (settings_octets t) → s.max_packet ≡ t.max_packet → s ≡ t
twelve_told s t l e limit =
    let layout = layout_of s.layout.spacecraft s.layout.frame_length s.layout.skip_before s.layout.skip_after s.layout.secondary s.layout.ocf s.layout.error_control in
    let all : ◌≡◌ {A = Rules} (record { layout = layout; channels = s.channels; max_packet = s.max_packet }) t =
    rw (number_told s.layout.spacecraft t.layout.spacecraft (cc) (cc), number_told s.layout.frame_length t.layout.frame_length (cc) (cc))
    (rw (number_told s.layout.skip_before t.layout.skip_before (cc) (cc), number_told s.layout.skip_after t.layout.skip_after (cc) (cc), presence_told s.layout.secondary t.layout.secondary (cc))
    (rw (presence_told s.layout.ocf t.layout.ocf (cc), truth_told s.layout.error_control t.layout.error_control (cc), mask_told s.channels t.channels l (cc), limit) refl)) in
    all

-- and all fifteen tell them all
fifteen_told : (s t : Rules) → length s.channels ≡ length t.channels → settings_octets s ≡ settings_octets t → s ≡ t
fifteen_told s t l e =
    let limits : three_octets s.max_packet ≡ three_octets t.max_packet = ap (drop 12) e in
    twelve_told s t l (ap (take 12) e) (three_told s.max_packet t.max_packet (cc) (cc) (cc))

-- where a version can tell the settings its octets do
settings_told : (v : Version) (s t : Rules) → length s.channels ≡ length t.channels → tells v s ≡ true → tells v t ≡ true → head_octets v s ≡ head_octets v t → s ≡ t
settings_told One s t l p q e = twelve_told s t l (ap (drop 5) e) (eqb-true s.max_packet 65542 p ∙ sym (eqb-true t.max_packet 65542 q))
settings_told _ s t l p q e = fifteen_told s t l (ap (drop 5) e)

-- ---- spellings in front of octets

-- the octets of states that go on in the same way tell what the version keeps of them
states_told : (v : Version) (rules : Rules) (s t : State) (a b : List ℕ) → IsValidState rules s → IsValidState rules t
    → state_octets v s ++ a ≡ state_octets v t ++ b → (kept_state v s ≡ kept_state v t) × (a ≡ b)
states_told v rules s t a b p q e =
    let read = sym (state_again v rules s a p) ∙ ap (state_in v rules) e ∙ state_again v rules t b q in
    let same : kept_state v s ≡ kept_state v t = ap (λ (d : reassembly.DecodedState). d.state) (same_Ok _ _ read) in
    let octets : state_octets v s ≡ state_octets v t = sym (kept_spelled v s) ∙ ap (state_octets v) same ∙ kept_spelled v t in
    (same, append_cancel_left (state_octets v t) a b (rw octets at e))

entries_told : (s t : Entries) (a b : List ℕ) → valid.AreValidEntries s → valid.AreValidEntries t → sequence.entries_spelling s ++ a ≡ sequence.entries_spelling t ++ b → s ≡ t
entries_told s t a b v w e =
    let read = sym (sequence_written.decoding-spelling s a v) ∙ ap sequence.entries_decoding_of e ∙ sequence_written.decoding-spelling t b w in
    ap (λ (d : sequence.DecodedEntries). d.entries) (same_Ok _ _ read)

-- ---- checkpoints

-- the octets in front, whatever follows
front : (v : Version) (w : Work) (rest : List ℕ) → take (5 + (form_of v).settings) (spelled_in v w ++ rest) ≡ head_octets v w.rules
unfolding spelled_in
front One w rest = refl
front _ w rest = refl

-- the octets after them, part by part
parts : (v : Version) (w : Work) (rest : List ℕ) → drop (5 + (form_of v).settings) (spelled_in v w ++ rest)
    ≡ state_octets v w.state ++ (sequence.entries_spelling w.entries ++ (check v w ++ rest))
parts v w rest =
    behind_head v w rest
    ∙ append_assoc (body v w) (check v w) rest
    ∙ append_assoc (state_octets v w.state) (sequence.entries_spelling w.entries) (check v w ++ rest)

works_told : (v : Version) (a b : Work) (rest more : List ℕ) → IsWork a → IsWork b → tells v a.rules ≡ true → tells v b.rules ≡ true
    → spelled_in v a ++ rest ≡ spelled_in v b ++ more → kept_in v a ≡ kept_in v b
works_told v a b rest more ha hb ta tb e =
    let k : ℕ = 5 + (form_of v).settings in
    let settings : a.rules ≡ b.rules = settings_told v a.rules b.rules (ha.eight ∙ sym hb.eight) ta tb (sym (front v a rest) ∙ ap (take k) e ∙ front v b more) in
    let tails : state_octets v a.state ++ (sequence.entries_spelling a.entries ++ (check v a ++ rest))
    ≡ state_octets v b.state ++ (sequence.entries_spelling b.entries ++ (check v b ++ more)) = sym (parts v a rest) ∙ ap (drop k) e ∙ parts v b more in
    let moved : IsValidState a.rules b.state = subst (λ (s : Rules). IsValidState s b.state) (sym settings) hb.state in
    let told = states_told v a.rules a.state b.state (sequence.entries_spelling a.entries ++ (check v a ++ rest)) (sequence.entries_spelling b.entries ++ (check v b ++ more)) ha.state moved tails in
    let entries : a.entries ≡ b.entries = entries_told a.entries b.entries (check v a ++ rest) (check v b ++ more) ha.entries hb.entries told.1 in
    rw (settings, told.0, entries) refl

-- the version is told by the fifth octet
version_told : (u v : Version) (a b : Work) (rest : List ℕ) → spelled_in u a ++ rest ≡ spelled_in v b → u ≡ v
unfolding spelled_in
version_told u v a b rest e = told_apart u v (ap (λ (l : List ℕ). slice_index l 4) e)

-- what a version keeps of a work is spelled as that is
kept_again : (v : Version) (w : Work) → spelled_in v (kept_in v w) ≡ spelled_in v w
unfolding spelled_in
kept_again One w = refl
kept_again _ w = refl

same_version : (v : Version) (a b : Work) (rest : List ℕ) → IsWork a → IsWork b → tells v a.rules ≡ true → tells v b.rules ≡ true
    → spelled_in v a ++ rest ≡ spelled_in v b → (kept_in v a ≡ kept_in v b) × (rest ≡ [])
same_version v a b rest ha hb ta tb e =
    let same : kept_in v a ≡ kept_in v b = works_told v a b rest [] ha hb ta tb (e ∙ sym (append-nil (spelled_in v b))) in
    let octets : spelled_in v a ≡ spelled_in v b = sym (kept_again v a) ∙ ap (spelled_in v) same ∙ kept_again v b in
    (same, nil_from_length rest (omega (arith, ap length octets, ap length e, length-append (spelled_in v a) rest)))

pub no_prefix : (u v : Version) (a b : Work) (rest : List ℕ) → IsWork a → IsWork b → tells u a.rules ≡ true → tells v b.rules ≡ true
    → spelled_in u a ++ rest ≡ spelled_in v b → (u ≡ v) × (kept_in u a ≡ kept_in v b) × (rest ≡ [])
no_prefix u v a b rest ha hb ta tb e =
    subst (λ (x : Version). tells x b.rules ≡ true → spelled_in u a ++ rest ≡ spelled_in x b → (u ≡ x) × (kept_in u a ≡ kept_in x b) × (rest ≡ []))
    (version_told u v a b rest e) (λ t f. let (same, none) = same_version u a b rest ha hb ta t f in (refl, same, none)) tb e
