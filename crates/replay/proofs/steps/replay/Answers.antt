-- `replay::steps::replay` meets its contract.
use Rattle.std.proofs.Common.{◌≡◌, sym, rules, Err}
use Rattle.strips.specs.Task.{Valid}
use Rattle.outcome.specs.declared.Refusal.TheVariants.{InvalidTask}
use Rattle.replay.specs.Replay.{returned}
use Rattle.replay.specs.Laws.Replay.{refuses_9}
use Rattle.replay.proofs.steps.replay.Goals as goal

pub returns-in_err-task : goal.returns-in_err-task
unfolding returned
returns-in_err-task c =
    let e : c.from_residual.result ≡ Err InvalidTask = search rules in
    let invalid : Valid c.args.task → ⊥ = search rules in
    rw e (sym (refuses_9 _ _ _ invalid))
