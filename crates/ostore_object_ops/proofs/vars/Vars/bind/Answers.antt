use Rattle.std.proofs.Common.{ℕ, List, ap, ◌∙◌, cond, Some}
use Rattle.std.specs.Ordering.{is_eq, eq_by_cmp}
use Rattle.std.specs.declared.vec.Vec.{Vec}
use Rattle.std.specs.declared.alloc.Global.{Global}
use Rattle.std.specs.Map.{lookup}
use Rattle.ostore_graph_model.specs.Orders.{text_cmp}
use Rattle.ostore_object_ops.specs.Bound.{bound_by}
use Rattle.ostore_object_ops.proofs.VarsLaws.{lookup-put}
use Rattle.ostore_object_ops.proofs.vars.Vars.bind.Goals as goal

pub returns-clause-bound : goal.returns-clause-bound
returns-clause-bound c = λ other.
    ap (λ es. lookup (λ k. is_eq (text_cmp other k.items)) es) c.in_ok-insert.ensures.entries
    ∙ lookup-put (λ (k : Vec ℕ Global). k.items) c.into_vec.result c.args.pointer other c.args.self.now.bound.entries
    ∙ ap (λ (bytes : List ℕ). cond (eq_by_cmp text_cmp other bytes) (Some c.args.pointer) (bound_by c.args.self.now other)) (c.into_vec.ensures ∙ c.in_ok-copy.ensures)
