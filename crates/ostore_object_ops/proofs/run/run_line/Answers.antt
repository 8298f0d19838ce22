use Rattle.std.proofs.Common.{◌≡◌, ℕ, List, length, ap, sym, subst, arith, Some, ◌∙◌}
use Rattle.std.specs.List.{slice_get}
use Rattle.ostore_graph_model.specs.declared.commands.Command.{Command}
use Rattle.ostore_segments.proofs.ListSteps.{Becomes-weaker, Becomes-known}
use Rattle.ostore_object_ops.proofs.RunLaws.{item_at}
use Rattle.ostore_object_ops.proofs.StepFacts.{no_space_map, stopped_map}
use Rattle.ostore_object_ops.proofs.ClaimFacts.{line_sees, line_breaks, line_brings, line_owns, line_wants}
use Rattle.ostore_object_ops.proofs.run.run_line.Goals as goal

pub returns-in-Err-clause-space : goal.returns-in-Err-clause-space
returns-in-Err-clause-space g c =
    let all : length c.items-commands.result.now ≡ length c.args.txn.now.commands = ap (λ (l : List Command). length l) c.items-commands.ensures in
    let long : c.args.progress.now.replies.len ≡ length c.args.progress.now.replies.items = omega (arith, c.args.progress.now.replies.ok.0) in
    let at : c.len-place.result ≡ length c.args.progress.now.replies.items = c.len-place.ensures ∙ long in
    let there : slice_get c.args.txn.now.commands (length c.args.progress.now.replies.items) ≡ Some c.index-commands-place.result =
    subst (λ (k : ℕ). slice_get c.args.txn.now.commands k ≡ Some c.index-commands-place.result) at
    (ap (λ (l : List Command). slice_get l c.len-place.result) (sym c.items-commands.ensures) ∙ item_at c.items-commands.result.now c.len-place.result c.index-commands-place.result (omega arith) c.index-commands-place.is) in
    no_space_map _ _ c.in-Err.stop (λ lack lacks. Becomes-weaker (λ old new known seen. (seen.0, (c.index-commands-place.result, there, seen.1))) lacks) c.in-Err.ensures.space

pub returns-clause-lists : goal.returns-clause-lists
returns-clause-lists g c =
    let all : length c.items-commands.result.now ≡ length c.args.txn.now.commands = ap (λ (l : List Command). length l) c.items-commands.ensures in
    let long : c.args.progress.now.replies.len ≡ length c.args.progress.now.replies.items = omega (arith, c.args.progress.now.replies.ok.0) in
    let at : c.len-place.result ≡ length c.args.progress.now.replies.items = c.len-place.ensures ∙ long in
    let there : slice_get c.args.txn.now.commands (length c.args.progress.now.replies.items) ≡ Some c.index-commands-place.result =
    subst (λ (k : ℕ). slice_get c.args.txn.now.commands k ≡ Some c.index-commands-place.result) at
    (ap (λ (l : List Command). slice_get l c.len-place.result) (sym c.items-commands.ensures) ∙ item_at c.items-commands.result.now c.len-place.result c.index-commands-place.result (omega arith) c.index-commands-place.is) in
    Becomes-weaker (λ old new known executes. record { command = c.index-commands-place.result; next = there; reply = c.in-Ok.reply; last = c.in-Ok-push.ensures.items; executes = executes }) c.in-Ok.ensures.lists

pub returns-in-Err-push-clause-memory : goal.returns-in-Err-push-clause-memory
returns-in-Err-push-clause-memory g c =
    Becomes-known c.requires.stands (λ old new known executes. (executes.does known.vars known.graph known.means).means.valid) c.in-Ok.ensures.lists

pub returns-clause-sees : goal.returns-clause-sees
returns-clause-sees g c = line_sees c.args.schema.now c.args.txn.now.update c.index-commands-place.result c.in-Ok.reply _ _ c.requires.stands c.in-Ok.ensures.lists c.in-Ok.ensures.brings

pub returns-in-Err-clause-stays : goal.returns-in-Err-clause-stays
returns-in-Err-clause-stays g c =
    stopped_map _ _ _ _ c.in-Err.stop (λ fault breaks stays. line_breaks c.args.schema.now c.args.txn.now.update c.index-commands-place.result _ c.requires.stands (breaks stays)) (λ passed. passed) c.in-Err.ensures.stays

pub returns-clause-brings : goal.returns-clause-brings
returns-clause-brings g c =
    let all : length c.items-commands.result.now ≡ length c.args.txn.now.commands = ap (λ (l : List Command). length l) c.items-commands.ensures in
    let long : c.args.progress.now.replies.len ≡ length c.args.progress.now.replies.items = omega (arith, c.args.progress.now.replies.ok.0) in
    let at : c.len-place.result ≡ length c.args.progress.now.replies.items = c.len-place.ensures ∙ long in
    let there : slice_get c.args.txn.now.commands (length c.args.progress.now.replies.items) ≡ Some c.index-commands-place.result =
    subst (λ (k : ℕ). slice_get c.args.txn.now.commands k ≡ Some c.index-commands-place.result) at
    (ap (λ (l : List Command). slice_get l c.len-place.result) (sym c.items-commands.ensures) ∙ item_at c.items-commands.result.now c.len-place.result c.index-commands-place.result (omega arith) c.index-commands-place.is) in
    line_brings c.args.txn.now c.args.progress.now.replies.items c.index-commands-place.result _ there c.in-Ok.ensures.brings

pub returns-clause-owns : goal.returns-clause-owns
returns-clause-owns g c =
    let all : length c.items-commands.result.now ≡ length c.args.txn.now.commands = ap (λ (l : List Command). length l) c.items-commands.ensures in
    let long : c.args.progress.now.replies.len ≡ length c.args.progress.now.replies.items = omega (arith, c.args.progress.now.replies.ok.0) in
    let at : c.len-place.result ≡ length c.args.progress.now.replies.items = c.len-place.ensures ∙ long in
    let there : slice_get c.args.txn.now.commands (length c.args.progress.now.replies.items) ≡ Some c.index-commands-place.result =
    subst (λ (k : ℕ). slice_get c.args.txn.now.commands k ≡ Some c.index-commands-place.result) at
    (ap (λ (l : List Command). slice_get l c.len-place.result) (sym c.items-commands.ensures) ∙ item_at c.items-commands.result.now c.len-place.result c.index-commands-place.result (omega arith) c.index-commands-place.is) in
    line_owns c.args.txn.now c.args.progress.now.replies.items c.index-commands-place.result _ there c.in-Ok.ensures.owns

pub returns-in-Err-clause-wants : goal.returns-in-Err-clause-wants
returns-in-Err-clause-wants g c =
    let all : length c.items-commands.result.now ≡ length c.args.txn.now.commands = ap (λ (l : List Command). length l) c.items-commands.ensures in
    let long : c.args.progress.now.replies.len ≡ length c.args.progress.now.replies.items = omega (arith, c.args.progress.now.replies.ok.0) in
    let at : c.len-place.result ≡ length c.args.progress.now.replies.items = c.len-place.ensures ∙ long in
    let there : slice_get c.args.txn.now.commands (length c.args.progress.now.replies.items) ≡ Some c.index-commands-place.result =
    subst (λ (k : ℕ). slice_get c.args.txn.now.commands k ≡ Some c.index-commands-place.result) at
    (ap (λ (l : List Command). slice_get l c.len-place.result) (sym c.items-commands.ensures) ∙ item_at c.items-commands.result.now c.len-place.result c.index-commands-place.result (omega arith) c.index-commands-place.is) in
    stopped_map _ _ _ _ c.in-Err.stop (λ fault breaks stays. line_wants c.args.txn.now c.args.progress.now.replies.items c.index-commands-place.result _ there (breaks stays)) (λ passed. passed) c.in-Err.ensures.stays
