use Rattle.std.proofs.Common.{refl, sym, subst}
use Rattle.std.specs.List.{AllByRecursion}
use Rattle.ostore_graph_model.specs.Valid.{IsValid}
use Rattle.ostore_segments.proofs.ListSteps.{stands_alone}
use Rattle.ostore_object_ops.specs.Suits.{IsBuilt}
use Rattle.ostore_object_ops.proofs.claims.claims_of.Goals as goal

pub run_transaction-requires-clause-suits : goal.run_transaction-requires-clause-suits
run_transaction-requires-clause-suits c = record {
  lawful = c.in-Ok.ensures.read.lawful;
  ints = c.is_of_ints.ensures.0 c.if-not-is_of_ints.false;
  sizes = refl;
  pointers = refl;
}

pub run_transaction-requires-clause-built : goal.run_transaction-requires-clause-built
run_transaction-requires-clause-built c = subst (AllByRecursion IsBuilt) c.items.ensures (c.are_built.ensures.0 c.if-not-are_built.false)

pub run_transaction-requires-clause-stands : goal.run_transaction-requires-clause-stands
run_transaction-requires-clause-stands c =
    let law = c.fresh_pages_are_empty.ensures c.in-Ok.schema c.args.text.now c.args.count c.in-Ok.ensures.read c.requires.least c.requires.most in
    stands_alone c.in-Ok-fresh_pages.list (subst (IsValid c.in-Ok.schema) (sym c.in-Ok-fresh_pages.ensures.fresh) law.0)
