use Rattle.std.proofs.Common.{refl}
use Rattle.ostore_base.proofs.memory.held.Held.begin_call.Goals as goal

pub returns-then-failing-clause-named : goal.returns-then-failing-clause-named
returns-then-failing-clause-named c =
    (λ _. rw (← c.self.view_is) (rw (← c.deref.ensures.value) (c.is_failing-failing.ensures.0 c.if-failing.true)), λ _. refl)
