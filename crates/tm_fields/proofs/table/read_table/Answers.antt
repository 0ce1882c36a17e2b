use Rattle.std.proofs.Common.{Bor, List, ℕ, length, ap, ◌≡◌, ◌∙◌, sym, refl, arith, inl, inr, Some, ◌∷◌, ◌++◌, [], rules}
use Rattle.csv.specs.Reading.{Reached, default_config, strip_bom}
use Rattle.csv.specs.Records.{fields_of}
use Rattle.csv.specs.declared.parser.State.TheVariants as st
use Rattle.csv.proofs.ReadFacts.{rows-end, rows-more}
use Rattle.std.specs.Prelude.{Option}
use Rattle.tm_fields.specs.code.Reading.{fault_of_kind, kept}
use Rattle.tm_faults.specs.declared.definition.DefinitionFault.TheVariants.{Csv}
use Rattle.tm_fields.proofs.Causes.{cause, took_next}
use Rattle.tm_fields.proofs.Kept.{take_again}
use Rattle.tm_fields.proofs.Lengths.{expects_more, expected_same, not_expected}
use Rattle.tm_fields.proofs.Records.{records_are, records_have}
use Rattle.tm_fields.proofs.table.read_table.Goals as goal

pub loop-row-init : goal.loop-row-init
unfolding Reached
loop-row-init c =
    let fr = c.from_reader-reader.ensures in
    let e = c.has_headers.ensures in
    let start = c.into_iter-row-iterator.ensures.into_iter_gives ∙ refl in
    let rdr = c.into_byte_records-row-items.ensures.rdr in
    let left = c.into_byte_records-row-items.ensures.left in
    rw (start, rdr, c.new-rows.ensures.items) (
      rw e at fr.trim ∙ c.new.ensures.trim,
      inr (inr (rw e at fr.has_headers, fr.headers)),
      left,
      rw e at fr.config ∙ c.new.ensures.config,
      rw e at fr.flexible ∙ c.new.ensures.flexible,
      omega arith,
      [],
      refl,
      fr.expected,
      strip_bom c.args.text.now,
      fr.source,
      (sym fr.state, refl),
    )

pub loop-row-preserved : goal.loop-row-preserved
loop-row-preserved c =
    let inv = c.loop-row.invariant in
    let steps = c.next.ensures.steps inv.2 inv.0 in
    let s = rw (c.in-Some.is, c.in-Ok.is) at (steps.0 inv.1) in
    let flexible = rw (c.in-Some.is, c.in-Ok.is) at steps.3 in
    let f = fields_of c.in-Ok.row in
    let all = inv.6 in
    let m = rows-more (λ (s : Bor (List ℕ)). Some s.now) c.loop-row.row-iterator.rdr c.next.new.self.rdr f default_config st.StartRecord (strip_bom c.args.text.now) inv.9 all inv.3 inv.10 inv.11 s.0 in
    let expects = expects_more _ c.next.new.self.rdr.expected all f inv.8 (s.0.5 refl inv.4) in
    let rows = c.in_ok-keep-in-Ok.ensures.kept ∙ ap (λ l. kept (l ++ (f ∷ []))) inv.7 ∙ take_again 1002 all f in
    (s.0.3 ∙ inv.0, inl s.1, s.2, s.0.2 ∙ inv.3, flexible ∙ inv.4, c.keep.ensures.few, all ++ (f ∷ []), rows, expects, m.0, m.1, m.2)

pub returns : goal.returns
returns c =
    let inv = c.loop-row.invariant in
    let s = rw c.in-None.is at ((c.next.ensures.steps inv.2 inv.0).0 inv.1) in
    let ended = rows-end (λ (s : Bor (List ℕ)). Some s.now) c.loop-row.row-iterator.rdr c.next.new.self.rdr [] default_config inv.9 inv.3 inv.10 s in
    let all = records_are (strip_bom c.args.text.now) inv.6 (c.loop-row.row-iterator.rdr.state, inv.9, inv.11, ended) in
    record { rows = inv.7 ∙ ap kept (sym all); same = rw all (expected_same _ _ inv.8); csv = search rules; only = search rules }

pub returns-in-Err-clause-csv : goal.returns-in-Err-clause-csv
returns-in-Err-clause-csv c h =
    let inv = c.loop-row.invariant in
    let s = rw (c.in-Some.is, c.in-Err.is) at ((c.next.ensures.steps inv.2 inv.0).0 inv.1) in
    let rem : Bor (List ℕ) → Option (List ℕ) = λ s. Some s.now in
    let is_csv : fault_of_kind c.in-Err.error.kind ≡ Csv = cc (h, c.fault_of.ensures) in
    let (x, fields, expected, apart, read) = cause rem c.loop-row.row-iterator.rdr c.next.new.self.rdr c.in-Err.error.kind is_csv s in
    let (p, next, first) = took_next rem c.loop-row.row-iterator.rdr c.next.new.self.rdr default_config inv.9 fields inv.3 inv.10 read in
    let (more, all) = records_have (strip_bom c.args.text.now) inv.6 c.loop-row.row-iterator.rdr.state inv.9 p inv.11 next in
    rw all (not_expected _ x inv.6 more p.0 inv.8 expected (λ q. apart (q ∙ sym (ap length first))))
