-- The line of a command that was executed, and the last line.
use Rattle.std.proofs.Common.{◌≡◌, ℕ, ◌+◌, ◌<◌, ◌≤◌, ◌∷◌, [], List, length, Some, refl, sym, ap, subst, ◌∙◌, arith}
use Rattle.std.proofs.lemmas.List.{length-append}
use Rattle.ostore_page_service.specs.Told.{Told}
use Rattle.ostore_graph_model.specs.declared.values.Reply.{Reply}
use Rattle.ostore_graph_model.specs.declared.commands.Txn.{Txn}
use Rattle.ostore_graph_model.specs.declared.commands.Script.{Script}
use Rattle.ostore_graph_model.specs.declared.history.Entry.{Entry}
use Rattle.ostore_client_core.specs.Clients.{ClientView}
use Rattle.ostore_client_core.specs.Attempts.{seen_list}
use Rattle.ostore_object_ops.specs.declared.progress.Progress.{Progress}
use Rattle.ostore_object_ops.specs.Progresses.{replies_of}
use Rattle.ostore_client_access.specs.Accesses.{Passes}
use Rattle.ostore_client_access.specs.Attempts.{AddsReply, HasRunLines}
use Rattle.ostore_transactions.specs.declared.attempt.Attempt.{Attempt}
use Rattle.ostore_transactions.specs.Attempts.{last_line, line_in, line_at, IsAlong, IsWith, IsAt}
use Rattle.ostore_transactions.specs.Lines.{IsGoing}

one_more : (replies more : List Reply) → AddsReply replies more → length more ≡ length replies + 1
one_more replies more adds = ap (λ (l : List Reply). length l) adds.1 ∙ length-append replies (adds.0 ∷ [])

pub line_goes : (a b : Script → Type 0) (t u : Told Entry) (x y : ClientView) (txn : Txn) (before after : Progress)
    → length (replies_of before) < length txn.commands → AddsReply (replies_of before) (replies_of after) → Passes txn.update a b t u x y
    → IsGoing a b t u x y txn (length (replies_of before) + 1) (record { progress = Some after })
line_goes a b t u x y txn before after left adds passes = record {
  left = omega arith;
  next = ap (λ (n : ℕ). n + 1) (one_more (replies_of before) (replies_of after) adds);
  same = passes.same;
  served = passes.served;
  calm = passes.calm;
}

pub line_stands : (a b : Script → Type 0) (t u : Told Entry) (x y : ClientView) (txn : Txn) (before after : Progress)
    → IsAlong a t x txn before → AddsReply (replies_of before) (replies_of after) → Passes txn.update a b t u x y → HasRunLines b u y txn after
    → IsAlong b u y txn after
line_stands a b t u x y txn before after along adds passes lines =
    let more = one_more (replies_of before) (replies_of after) adds in
    let some = along.room in
    let rises = passes.same.room in
    record {
      lines = lines;
      first = λ none. (let nothing : length (replies_of after) ≡ 0 = ap (λ (l : List Reply). length l) none in absurd (omega arith));
      room = omega arith;
    }

-- where each command has a reply, the next line is the last one
pub at_last : (a : Script → Type 0) (t : Told Entry) (x : ClientView) (txn : Txn) (attempt : Attempt) (progress : Progress)
    → IsAt a t x txn attempt → Some progress ≡ attempt.progress → length txn.commands ≤ length (replies_of progress) → line_at attempt ≡ last_line txn
at_last a t x txn attempt progress at is end =
    let along : IsAlong a t x txn progress = subst (IsWith a t x txn) (sym is) at in
    let some = along.lines.runs.some in
    let few = (along.lines.ran some.0 (seen_list x some.0) (record { runs = along.lines.runs; began = some.1; made = refl })).few in
    let here : line_at attempt ≡ length (replies_of progress) + 1 = ap line_in (sym is) in
    omega arith
