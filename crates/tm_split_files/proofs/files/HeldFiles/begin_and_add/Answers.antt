use Rattle.std.proofs.Common.{ap, arith, ◌∙◌, Some}
use Rattle.tm_split_files.proofs.BufferLemmas.{in_any_case, kept_if_refused, left_if_refused, made_there, put_there, set_elsewhere, set_here}
use Rattle.tm_split_files.proofs.files.HeldFiles.begin_and_add.Goals as goal

pub returns-in_err-begin_once-clause-others : goal.returns-in_err-begin_once-clause-others
returns-in_err-begin_once-clause-others g c = set_elsewhere c.args.self.now.begun.items c.args.application c.begin_once.new.begun

pub returns-clause-begun : goal.returns-clause-begun
returns-clause-begun g c =
    let there = set_here c.args.self.now.begun.items c.args.application c.begin_once.new.begun (omega (arith, c.args.self.now.all_begun)) in
    in_any_case c.add.result (λ value. there ∙ ap Some c.in_ok-begin_once.ensures.begun) (λ fault. tt)

pub returns-clause-others : goal.returns-clause-others
returns-clause-others g c = set_elsewhere c.args.self.now.begun.items c.args.application c.begin_once.new.begun

pub returns-clause-made : goal.returns-clause-made
returns-clause-made g c = in_any_case c.add.result
    (λ value. made_there c.args.self.now.begun.items c.args.application c.index_mut-begun.result.now _ _
    (omega (arith, c.args.self.now.all_begun)) c.index_mut-begun.ensures.value c.in_ok-begin_once.ensures.made) (λ fault. tt)

pub returns-clause-held : goal.returns-clause-held
returns-clause-held g c =
    put_there c.args.self.now.held.items c.args.application c.index_mut-held.result.now c.add.new.held (omega (arith, c.args.self.now.all_held))
    c.index_mut-held.ensures.value c.add.result c.args.octets.now c.add.ensures.held

pub returns-clause-kept : goal.returns-clause-kept
returns-clause-kept g c =
    kept_if_refused c.args.self.now.held.items c.args.application c.index_mut-held.result.now c.add.new.held (omega (arith, c.args.self.now.all_held))
    c.index_mut-held.ensures.value c.add.result c.add.ensures.kept

pub returns-clause-left : goal.returns-clause-left
returns-clause-left g c =
    left_if_refused c.args.self.now.held.items c.args.application c.index_mut-held.result.now c.add.new.held (omega (arith, c.args.self.now.all_held))
    c.index_mut-held.ensures.value c.add.result c.add.ensures.left
