use Rattle.std.proofs.Common.{inl, inr, refl}
use Rattle.std.proofs.lemmas.Result.{on_ok_weaker}
use Rattle.tm_split_files.proofs.BufferLemmas.{in_any_case, left_of_all}
use Rattle.tm_split_files.specs.code.Buffers.{AreLeft}
use Rattle.tm_split_files.proofs.files.HeldFiles.hold.Goals as goal

pub returns-in-Some-clause-left : goal.returns-in-Some-clause-left
returns-in-Some-clause-left g c = (inl (inl refl), λ other is_other. inl refl)

pub returns-in_err-begin_and_add-clause-left : goal.returns-in_err-begin_and_add-clause-left
returns-in_err-begin_and_add-clause-left g c =
    let left = c.in_err-begin_and_add.ensures.left in
    in_any_case {Q = λ fault. AreLeft c.args.self.now.held.items c.begin_and_add.new.self.held.items c.args.application c.args.octets.now}
    c.from_residual.result (λ value. tt) (λ fault. (inl (left c.args.application), λ other is_other. left other))

pub returns-clause-held : goal.returns-clause-held
returns-clause-held g c = on_ok_weaker c.write_held.result (λ empty. inr empty) c.write_held.ensures.held

pub returns-clause-left : goal.returns-clause-left
returns-clause-left g c = in_any_case c.write_held.result (λ value. tt)
    (λ fault. left_of_all c.args.self.now.held.items c.begin_and_add.new.self.held.items c.write_held.new.self.held.items
    c.args.application c.args.octets.now c.in_ok-begin_and_add.ensures.held c.write_held.ensures.left)

pub returns-clause-kept : goal.returns-clause-kept
returns-clause-kept g c = in_any_case c.write_held.result (λ value. tt) (λ fault starving. inr c.write_held.ensures.octets)
