use Rattle.std.proofs.Common.{◌≡◌, ◌+◌, ◌<◌, List, ap, sym, subst, arith, length, ◌∙◌}
use Rattle.std.specs.Option.{option_map}
use Rattle.ostore_graph_model.specs.declared.values.Reply.{Reply}
use Rattle.ostore_segments.proofs.ListSteps.{Stands-now, Becomes-stands, Becomes-then, Becomes-weaker}
use Rattle.ostore_object_ops.specs.Bound.{leads_of}
use Rattle.ostore_object_ops.specs.Suits.{Suits, MayUpdate}
use Rattle.ostore_object_ops.specs.Lines.{HasRun, Transacts}
use Rattle.ostore_object_ops.proofs.RunLaws.{first_lines, next_lines, meanings, last_lines, one_more, lacks_growth, few_in_view}
use Rattle.ostore_object_ops.proofs.StepFacts.{Becomes-stay, no_space_map, stopped_map, out_of_memory_map}
use Rattle.ostore_object_ops.proofs.run.run_transaction.Goals as goal

pub loop-line-init : goal.loop-line-init
loop-line-init g c = record {
  run =
      Becomes-stay c.requires.stands
      (λ list valid. subst (λ (replies : List Reply). HasRun c.args.schema.now c.args.txn.now replies (leads_of (g.P.Pages.held c.args.pages.now) c.new-progress.result.vars) list list) (sym c.new-progress.ensures.replies)
      (first_lines c.args.schema.now c.args.txn.now (leads_of (g.P.Pages.held c.args.pages.now) c.new-progress.result.vars) list valid (λ variable. ap (option_map (g.P.Pages.held c.args.pages.now).home) (c.new-progress.ensures.vars variable))));
  counted = ap (λ (l : List Reply). length l) c.new-progress.ensures.replies;
  passes = g.met.P.Pages.passes_at_once c.args.pages.now;
  sees = λ sees. sees;
  told = λ i. g.P.Pages.told c.args.pages.now;
}

pub run_line-requires-clause-suits : goal.run_line-requires-clause-suits
run_line-requires-clause-suits g c = subst (Suits c.args.schema.now) (sym c.loop-line.invariant.told) c.requires.suits

pub run_line-requires-clause-may : goal.run_line-requires-clause-may
run_line-requires-clause-may g c = subst (MayUpdate c.args.txn.now.update) (sym c.loop-line.invariant.told) c.requires.may

pub run_line-requires-clause-left : goal.run_line-requires-clause-left
run_line-requires-clause-left g c =
    let counted = c.loop-line.invariant.counted in
    let all = ap (λ l. length l) c.items-line-end.ensures in
    omega arith

pub run_line-requires-clause-stands : goal.run_line-requires-clause-stands
run_line-requires-clause-stands g c =
    Becomes-stands c.requires.stands (λ old new valid run. meanings c.args.schema.now c.args.txn.now _ _ old new run) c.loop-line.invariant.run

pub loop-line-preserved : goal.loop-line-preserved
loop-line-preserved g c = record {
  run =
      Becomes-weaker (λ old new there both. next_lines c.args.schema.now c.args.txn.now _ _ _ _ old both.middle new both.first both.second)
      (Becomes-then c.loop-line.invariant.run c.in-Ok.ensures.lists);
  counted =
      let more : length c.run_line.new.progress.replies.items ≡ length c.loop-line.progress.replies.items + 1 = Stands-now {P = λ list. length c.run_line.new.progress.replies.items ≡ length c.loop-line.progress.replies.items + 1} (λ list is. is)
      (Becomes-stands (Becomes-stands c.requires.stands (λ old new valid run. meanings c.args.schema.now c.args.txn.now _ _ old new run) c.loop-line.invariant.run) (λ old new known line. one_more _ _ line.reply line.last) c.in-Ok.ensures.lists) in
      let counted = c.loop-line.invariant.counted in
      omega arith;
  passes = g.met.P.Pages.passes_on _ _ _ c.loop-line.invariant.passes c.in-Ok.ensures.passes;
  sees = λ sees. c.in-Ok.ensures.sees (c.loop-line.invariant.sees sees);
  told = c.in-Ok.ensures.told ∙ c.loop-line.invariant.told;
}

pub returns-clause-lists : goal.returns-clause-lists
returns-clause-lists g c =
    Becomes-weaker
    (λ old new there run.
    let counted = c.loop-line.invariant.counted in
    let all = ap (λ l. length l) c.items-line-end.ensures in
    subst (λ (replies : List Reply). Transacts c.args.schema.now c.args.txn.now replies old new) (sym c.into_replies.ensures)
    (last_lines c.args.schema.now c.args.txn.now c.loop-line.progress.replies.items _ old new run (omega arith)))
    c.loop-line.invariant.run

pub returns-in-Err-clause-space : goal.returns-in-Err-clause-space
returns-in-Err-clause-space g c =
    no_space_map _ _ c.in-Err.stop
    (λ lack lacks.
    Becomes-weaker (λ old new there both. lacks_growth c.args.schema.now c.args.txn.now _ _ old both.middle lack both.first both.second.1) (Becomes-then c.loop-line.invariant.run lacks))
    c.in-Err.ensures.space

pub returns-in-Err-clause-stops : goal.returns-in-Err-clause-stops
returns-in-Err-clause-stops g c =
    stopped_map _ _ _ _ c.in-Err.stop
    (λ fault failed. g.met.P.Pages.fails_later _ _ _ fault c.loop-line.invariant.passes failed)
    (λ passed. g.met.P.Pages.passes_on _ _ _ c.loop-line.invariant.passes passed)
    c.in-Err.ensures.stops

pub returns-in-Err-clause-memory : goal.returns-in-Err-clause-memory
returns-in-Err-clause-memory g c =
    out_of_memory_map _ _ c.in-Err.stop
    (λ valid. Becomes-weaker (λ old new there both. both.second) (Becomes-then c.loop-line.invariant.run valid))
    c.in-Err.ensures.memory

pub returns-clause-sees : goal.returns-clause-sees
returns-clause-sees g c = c.loop-line.invariant.sees

pub returns-in-Err-clause-stays : goal.returns-in-Err-clause-stays
returns-in-Err-clause-stays g c =
    let counted = c.loop-line.invariant.counted in
    let all = ap (λ l. length l) c.items-line-end.ensures in
    let left : length c.loop-line.progress.replies.items < length c.args.txn.now.commands = omega arith in
    stopped_map _ _ _ _ c.in-Err.stop
    (λ fault breaks stays sees.
    Becomes-weaker (λ old new there both. few_in_view c.args.schema.now c.args.txn.now c.loop-line.progress.replies.items _ old both.middle (g.P.Pages.held c.run_line.new.pages) both.first left both.second)
    (Becomes-then c.loop-line.invariant.run (breaks stays (c.loop-line.invariant.sees sees))))
    (λ passed. passed)
    c.in-Err.ensures.stays
