-- The lines of a transaction, executed in an attempt one by one.
use Rattle.std.proofs.Common.{◌≡◌, ◌<◌, ◌≤◌, ℕ, true, nat_eq, List, [], length, refl, sym, ap, subst, ◌∙◌}
use Rattle.std.specs.Prelude.{None, Result, Ok, Err, OnOk}
use Rattle.std.specs.Option.{option_map}
use Rattle.std.specs.List.{IsDistinct}
use Rattle.std.specs.Map.{keys_of}
use Rattle.ostore_base.specs.declared.page.PageImage.{PageImage}
use Rattle.ostore_schema_layout.specs.declared.schema.Schema.{Schema}
use Rattle.ostore_segments.specs.declared.placement.NoSpace.{NoSpace}
use Rattle.ostore_segments.specs.Holdings.{PagesHeld, Stands, Becomes, Sees}
use Rattle.ostore_page_service.specs.Told.{Told}
use Rattle.ostore_graph_model.specs.declared.values.Reply.{Reply}
use Rattle.ostore_graph_model.specs.declared.commands.Script.{Script}
use Rattle.ostore_graph_model.specs.declared.commands.Txn.{Txn}
use Rattle.ostore_graph_model.specs.declared.history.Entry.{Entry}
use Rattle.ostore_client_cache.specs.Caches.{used_pages}
use Rattle.ostore_client_core.specs.Clients.{ClientView, IsIdle}
use Rattle.ostore_client_core.specs.Attempts.{home_of, seen_list, Attempts, MayBe}
use Rattle.ostore_client_core.proofs.SeenLaws.{nothing_made}
use Rattle.ostore_object_ops.specs.declared.progress.Progress.{Progress}
use Rattle.ostore_object_ops.specs.Means.{HasMeaning}
use Rattle.ostore_object_ops.specs.Progresses.{replies_of, bound_in, leads_by}
use Rattle.ostore_object_ops.specs.Lines.{RunsLine, LacksLine, HasRun}
use Rattle.ostore_object_ops.specs.Claiming.{SeesLinePages, SeesOneMore, BreaksLine}
use Rattle.ostore_object_ops.proofs.RunLaws.{first_lines, next_lines, meanings, last_lines, lacks_growth, few_in_view}
use Rattle.ostore_client_access.specs.Accesses.{access_held, Passes}
use Rattle.ostore_client_access.specs.Attempts.{HasRunLines, AddsReply, FindsNoPlace, FoundNoPlace, LacksOnEach, CrowdsOnEach, HasMade}
use Rattle.ostore_client_access.proofs.CrowdLaws.{idle_sees, few_crowd}
use Rattle.ostore_client_access.proofs.MadeLaws.{idle_owns, owns_nothing}

pub no_line_ran : (a : Script → Type 0) (t : Told Entry) (x : ClientView) (txn : Txn) (progress : Progress) → Attempts a t x → IsIdle x → replies_of progress ≡ [] → ((variable : List ℕ) → bound_in progress variable ≡ None) → HasRunLines a t x txn progress
no_line_ran a t x txn progress runs idle none unbound = record {
  runs = runs;
  ran = λ base list may.
      let same : list ≡ base = may.made ∙ nothing_made x base idle in
      subst (λ (l : List PageImage). HasRun x.schema txn (replies_of progress) (leads_by (access_held a t x) progress) base l) (sym same)
      (subst (λ (replies : List Reply). HasRun x.schema txn replies (leads_by (access_held a t x) progress) base base) (sym none)
      (first_lines x.schema txn (leads_by (access_held a t x) progress) base may.began.valid (λ variable. ap (option_map (home_of x)) (unbound variable))));
  reads = λ reads. idle_owns x idle;
  sees = idle_sees a t x txn.update idle;
}

pub lines_stand : (a : Script → Type 0) (t : Told Entry) (x : ClientView) (schema : Schema) (txn : Txn) (progress : Progress) → x.schema ≡ schema → HasRunLines a t x txn progress → Stands (access_held a t x) (HasMeaning schema (leads_by (access_held a t x) progress))
lines_stand a t x schema txn progress same lines = record {
  some = (lines.runs.some.0, seen_list x lines.runs.some.0, record { runs = lines.runs; began = lines.runs.some.1; made = refl });
  each = λ base list may. subst (λ (s : Schema). HasMeaning s (leads_by (access_held a t x) progress) list) same (meanings x.schema txn (replies_of progress) (leads_by (access_held a t x) progress) base list (lines.ran base list may));
}

module _ (a b : Script → Type 0) (t u : Told Entry) (x y : ClientView) (schema : Schema) (txn : Txn) (progress later : Progress) (same : x.schema ≡ schema) (lines : HasRunLines a t x txn progress) where
  abbrev before : PagesHeld
  before = access_held a t x

  abbrev after : PagesHeld
  after = access_held b u y

  ran_before : (base list : List PageImage) → MayBe a t x base list → HasRun schema txn (replies_of progress) (leads_by before progress) base list
  ran_before base list may = subst (λ (s : Schema). HasRun s txn (replies_of progress) (leads_by before progress) base list) same (lines.ran base list may)

  line_ran : y.schema ≡ x.schema → Passes txn.update a b t u x y → Becomes before after (RunsLine schema txn (replies_of progress) (replies_of later) (leads_by before progress) (leads_by after later)) → (SeesLinePages txn.update before → SeesLinePages txn.update after) → HasRunLines b u y txn later
  line_ran kept passed one saw = record {
    runs = one.some.2.runs;
    ran = λ base list may.
        let early = one.from base list may in
        subst (λ (s : Schema). HasRun s txn (replies_of later) (leads_by after later) base list) (sym (kept ∙ same))
        (next_lines schema txn (replies_of progress) (replies_of later) (leads_by before progress) (leads_by after later) base early.0 list (ran_before base early.0 early.1) early.2);
    reads = λ reads. owns_nothing txn.update a b t u x y passed reads (lines.reads reads);
    sees = saw lines.sees;
  }

  pub line_ok : {T F : Type 0} (r : Result T F) → y.schema ≡ x.schema → OnOk r (Passes txn.update a b t u x y) → OnOk r (Becomes before after (RunsLine schema txn (replies_of progress) (replies_of later) (leads_by before progress) (leads_by after later))) → OnOk r (SeesLinePages txn.update before → SeesLinePages txn.update after) → OnOk r (HasRunLines b u y txn later)
  line_ok (Ok value) kept passed one saw = line_ran kept passed one saw
  line_ok (Err fault) kept passed one saw = one

  pub line_adds : {T F : Type 0} (r : Result T F) → OnOk r (Becomes before after (RunsLine schema txn (replies_of progress) (replies_of later) (leads_by before progress) (leads_by after later))) → OnOk r (AddsReply (replies_of progress) (replies_of later))
  line_adds (Ok value) one = (let line = (one.from one.some.0 one.some.1 one.some.2).2 in (line.reply, line.last))
  line_adds (Err fault) one = one

  pub line_lacks : (lack : NoSpace) → Becomes before after (Sees (LacksLine schema txn (replies_of progress) lack)) → LacksOnEach b u y txn
  line_lacks lack one = record {
    runs = one.some.2.runs;
    lacks = λ base began.
        let early = one.from base (seen_list y base) (record { runs = one.some.2.runs; began = began; made = refl }) in
        lacks_growth schema txn (replies_of progress) (leads_by before progress) base early.0 lack (ran_before base early.0 early.1) early.2.1;
  }

  -- a line that was broken off for a full cache
  pub line_crowds : length (replies_of progress) < length txn.commands → IsDistinct nat_eq (keys_of y.pages) → (capacity : ℕ) → length (used_pages y.pages) ≡ capacity → BreaksLine txn.update before after → CrowdsOnEach b u y txn capacity
  line_crowds left distinct capacity count one = few_crowd a b t u x y txn capacity distinct count (λ old new. SeesOneMore txn.update after old)
      (λ base old list may saw. few_in_view schema txn (replies_of progress) (leads_by before progress) base old after (ran_before base old may) left saw)
      one

  pub line_place : y.schema ≡ x.schema → (lack : NoSpace) → Becomes before after (Sees (LacksLine schema txn (replies_of progress) lack)) → FindsNoPlace b u y txn (replies_of progress) lack
  line_place kept lack one = λ base list may.
      let early = one.from base list may in
      subst (λ (s : Schema). LacksLine s txn (replies_of progress) lack list) (sym (kept ∙ same))
      (subst (LacksLine schema txn (replies_of progress) lack) (sym early.2.0) early.2.1)

  pub line_found : (lack : NoSpace) → Becomes before after (Sees (LacksLine schema txn (replies_of progress) lack)) → FoundNoPlace a t x txn (replies_of progress) lack
  line_found lack one =
      let early = one.from one.some.0 one.some.1 one.some.2 in
      record { base = one.some.0; list = early.0; may = early.1; lacks = subst (λ (s : Schema). LacksLine s txn (replies_of progress) lack early.0) (sym same) early.2.1 }

  pub line_updates : (lack : NoSpace) → Becomes before after (Sees (LacksLine schema txn (replies_of progress) lack)) → txn.update ≡ true
  line_updates lack one = (let line = (one.from one.some.0 one.some.1 one.some.2).2.1 in line.2.may)

pub lines_made : (a : Script → Type 0) (t : Told Entry) (x : ClientView) (txn : Txn) (progress : Progress) → HasRunLines a t x txn progress → length txn.commands ≤ length (replies_of progress) → HasMade a t x txn (replies_of progress)
lines_made a t x txn progress lines end = record {
  runs = lines.runs;
  made = λ base list may. last_lines x.schema txn (replies_of progress) (leads_by (access_held a t x) progress) base list (lines.ran base list may) end;
  reads = lines.reads;
}
