use Rattle.std.proofs.Common.{rules, List, map, string_bytes}
use Rattle.clap.specs.Words.{Text}
use Rattle.tm_arguments.proofs.Required.{fault_of_one, planned, reaches, some_plan}
use Rattle.tm_arguments.proofs.arguments.matched_plan.Goals as goal

pub returns-in-Ok-Some-clause-required : goal.returns-in-Ok-Some-clause-required
returns-in-Ok-Some-clause-required c =
    let arguments : List Text = map string_bytes c.args.arguments.items in
    (planned arguments c.in-Ok-Some.plan (reaches arguments (search rules)) (search rules)).0

pub returns-in-Ok-Some-clause-stop : goal.returns-in-Ok-Some-clause-stop
returns-in-Ok-Some-clause-stop c =
    let arguments : List Text = map string_bytes c.args.arguments.items in
    (planned arguments c.in-Ok-Some.plan (reaches arguments (search rules)) (search rules)).1

pub unreachable-requires : goal.unreachable-requires
unreachable-requires c =
    let arguments : List Text = map string_bytes c.args.arguments.items in
    some_plan arguments (reaches arguments (search rules)) (search rules)

pub returns-in-Err-clause-kinds : goal.returns-in-Err-clause-kinds
returns-in-Err-clause-kinds c =
    rw (← c.as_slice.ensures.value) (fault_of_one _ c.in-Err.error c.fault_of_error-fault.result c.in-Err.ensures.kinds c.fault_of_error-fault.ensures.memory c.fault_of_error-fault.ensures.kind)
