use Rattle.std.proofs.Common.{◌≡◌, ◌<◌, ◌≤◌, ◌-◌, ◌+◌, ℕ, List, length, take, drop, refl, ap, subst, arith, ◌∙◌, ◌++◌, length-append}
use Rattle.tm_frame.specs.Layout.{record_length_of}
use Rattle.std.proofs.lemmas.List.{length-drop, length-take-le, take-take}
use Rattle.tm_reassembly.specs.Steps.{Progress}
use Rattle.tm_feed.specs.code.Sinking.{sink_state}
use Rattle.tm_feed.specs.code.Taking.{HasAdded}
use Rattle.tm_feed.proofs.FeedLemmas.{begun, kept_front, next_front}
use Rattle.tm_feed.proofs.taking.add_octets.Goals as goal

pub records-init : goal.records-init
records-init c =
    let size : c.record_length-size.result ≡ record_length_of c.args.reassembly.now.rules.layout =
    c.record_length-size.ensures.value ∙ ap record_length_of c.layout.ensures in
    record {
      taken = begun c.args.reassembly.now c.requires.going (omega (arith, size)) (sink_state c.args.sink.now) c.args.part.now.items c.args.octets.now c.requires.short;
      rules = refl;
      short = omega (arith, size);
      space = omega (arith, size);
      within = omega arith;
    }

pub returns-then-rest-missing-clause-taken : goal.returns-then-rest-missing-clause-taken
returns-then-rest-missing-clause-taken c =
    let inv = c.records.invariant in
    let octets : List ℕ = c.args.octets.now in
    let far : ℕ = length octets - c.records.at in
    let size : c.record_length-size.result ≡ record_length_of c.args.reassembly.now.rules.layout =
    c.record_length-size.ensures.value ∙ ap record_length_of c.layout.ensures in
    let to : c.records.at + far ≡ length octets = omega (arith, inv.within) in
    let more : List ℕ = take far (drop c.records.at octets) in
    let short : length c.keep_part.new.part.items < record_length_of c.args.reassembly.now.rules.layout =
    omega (arith, size, ap length c.keep_part.ensures.items, length-append c.records.part.items more, c.if-rest-missing.true, c.len.ensures) in
    subst (λ (n : ℕ). HasAdded c.args.reassembly.now c.records.reassembly (sink_state c.args.sink.now) (sink_state c.records.sink) (c.args.part.now.items ++ take n octets) c.keep_part.new.part.items) to
    (kept_front c.args.reassembly.now c.requires.going (omega (arith, size)) c.records.reassembly (sink_state c.args.sink.now) (sink_state c.records.sink)
    c.args.part.now.items octets c.records.part.items more c.records.at far inv.taken refl c.keep_part.new.part.items c.keep_part.ensures.items short)

pub records-preserved : goal.records-preserved
records-preserved c =
    let inv = c.records.invariant in
    let took = c.complete_record.ensures in
    let octets : List ℕ = c.args.octets.now in
    let ahead : List ℕ = take (length octets - c.records.at) (drop c.records.at octets) in
    let far : ℕ = c.record_length-size.result - c.len.result in
    let more : List ℕ = take far ahead in
    let size : c.record_length-size.result ≡ record_length_of c.args.reassembly.now.rules.layout =
    c.record_length-size.ensures.value ∙ ap record_length_of c.layout.ensures in
    let long : length ahead ≡ length octets - c.records.at =
    length-take-le (length octets - c.records.at) (drop c.records.at octets) (omega (arith, length-drop c.records.at octets)) in
    let inside : far ≤ length ahead = omega (arith, c.if-rest-missing.false) in
    let whole : length more ≡ far = length-take-le far ahead inside in
    record {
      taken = next_front c.args.reassembly.now c.requires.going (omega (arith, size)) c.records.reassembly (sink_state c.args.sink.now) (sink_state c.records.sink)
          c.args.part.now.items octets c.records.part.items more c.records.at far inv.taken
          (take-take far (length octets - c.records.at) (drop c.records.at octets) (omega (arith, inside, long)))
          c.complete_record.new.reassembly (sink_state c.complete_record.new.sink) c.complete_record.new.part.items
          (omega (arith, whole, size, inv.short, c.len.ensures)) took.left took.going took.gave took.none;
      rules = ap (λ (p : Progress). p.rules) took.left ∙ inv.rules;
      short = omega (arith, size, ap length took.none);
      space = omega (arith, inv.space, took.space);
      within = omega (arith, inside, long, inv.within);
    }
