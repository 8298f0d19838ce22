-- How executed lines make an executed transaction.
use Rattle.std.proofs.Common.{◌≡◌, ◌≢◌, ◌<◌, ◌≤◌, ◌+◌, ◌*◌, Bool, true, false, length, drop, get_or, suc, zero, arith, List, [], ◌∷◌, ◌++◌, refl, sym, ap, subst, ◌∙◌, Some}
use Rattle.std.specs.Prelude.{ℕ, if◌then◌else◌}
use Rattle.std.specs.List.{slice_get, AllPairs, Contains}
use Rattle.std.specs.FinMap as maps
use Rattle.std.proofs.lemmas.List.{append_assoc, append-nil, length-append, drop_more}
use Rattle.std.proofs.lemmas.Option.{slice_get_within, get_or_from_slice_get}
use Rattle.ostore_base.specs.declared.page.PageImage.{PageImage}
use Rattle.ostore_page_tags.specs.Allocated.{HasFree}
use Rattle.ostore_schema_layout.specs.declared.schema.Schema.{Schema}
use Rattle.ostore_graph_model.specs.declared.values.Reply.{Reply}
use Rattle.ostore_graph_model.specs.declared.commands.Command.{Command}
use Rattle.ostore_graph_model.specs.declared.commands.Txn.{Txn}
use Rattle.ostore_graph_model.specs.Orders.{text_cmp}
use Rattle.ostore_graph_model.specs.Graph.{Graph}
use Rattle.ostore_graph_model.specs.Growth.{growth}
use Rattle.ostore_graph_model.specs.Deeds.{Vars, Stepped}
use Rattle.ostore_graph_model.specs.Transaction.{Ran, with_first, run_from}
use Rattle.ostore_graph_model.proofs.GraphExists.{graph_exists}
use Rattle.ostore_object_ops.specs.Means.{Leads, LeadsToName}
use Rattle.ostore_object_ops.specs.Executes.{TakesAtMost}
use Rattle.ostore_segments.specs.declared.placement.NoSpace.{NoSpace}
use Rattle.ostore_object_ops.specs.Lines.{LacksLine, HasRun, LacksGrowth}
use Rattle.ostore_segments.specs.Holdings.{PagesHeld}
use Rattle.ostore_object_ops.specs.Claiming.{IsTriedPage, SeesOneMore, HasFewInView}
use Rattle.ostore_object_ops.proofs.CountFacts.{few_pages, few_in_read}
use Rattle.ostore_object_ops.proofs.NewFacts.{same_free}
use Rattle.ostore_object_ops.specs.LawsOfRuns.{LawOfFirstLines, LawOfNextLines, LawOfMeanings, LawOfLastLines, LawOfFewPages}

abbrev no_vars : Vars
no_vars = maps.empty

pub first_lines : LawOfFirstLines
first_lines schema txn leads list valid none = record {
  opened = valid;
  along = λ graph stands. record {
    vars = maps.empty;
    now = graph;
    means = record {
      valid = valid;
      stands = stands;
      bound = λ variable. subst (λ to. LeadsToName list to (maps.get no_vars variable)) (sym (none variable)) (maps.get-empty text_cmp variable);
    };
    left = run_from schema txn.update maps.empty graph txn.commands;
    run = refl;
    all = refl;
  };
  few = omega arith;
  taken = λ free has. (free, has, omega arith);
  reads = λ reading. refl;
  count = refl;
}

-- the command at a place
pub item_at : (commands : List Command) (k : ℕ) (command : Command) → k < length commands → command ≡ get_or commands k command → slice_get commands k ≡ Some command
item_at [] k command below is = absurd (omega arith)
item_at (first ∷ others) zero command below is = ap (λ (c : Command). Some c) (sym is)
item_at (first ∷ others) (suc k) command below is = item_at others k command (omega arith) is

-- what is left behind a command
left_at : (commands : List Command) (n : ℕ) (command : Command) → slice_get commands n ≡ Some command → drop n commands ≡ command ∷ drop (n + 1) commands
left_at commands n command there = drop_more commands n command (slice_get_within commands n command there) ∙ ap (λ (c : Command). c ∷ drop (n + 1) commands) (get_or_from_slice_get commands n command command there)

pub one_more : (replies more : List Reply) (reply : Reply) → more ≡ replies ++ reply ∷ [] → length more ≡ length replies + 1
one_more replies more reply is = ap (λ (l : List Reply). length l) is ∙ length-append replies (reply ∷ [])

takes_more : (m n : ℕ) (old middle new : List PageImage) → TakesAtMost m old middle → TakesAtMost n middle new → TakesAtMost (m + n) old new
takes_more m n old middle new first second free has =
    let one = first free has in
    let two = second one.0 one.1 in
    let less = one.2 in
    let fewer = two.2 in
    (two.0, two.1, omega arith)

pub next_lines : LawOfNextLines
next_lines schema txn replies more before after begun old new run line =
    let counted = one_more replies more line.reply line.last in
    let there = slice_get_within txn.commands (length replies) line.command line.next in
    record {
      opened = run.opened;
      along = λ graph stands.
          let sofar = run.along graph stands in
          let done = line.executes.does sofar.vars sofar.now sofar.means in
          let rest : List Command = drop (length more) txn.commands in
          let left : Ran = run_from schema txn.update done.then done.next (drop (length more) txn.commands) in
          let dropped : drop (length replies) txn.commands ≡ line.command ∷ drop (length more) txn.commands = left_at txn.commands (length replies) line.command line.next ∙ ap (λ (n : ℕ). line.command ∷ drop n txn.commands) (sym counted) in
          let ran : sofar.left ≡ with_first line.reply (run_from schema txn.update done.then done.next (drop (length more) txn.commands)) =
          sym sofar.run
          ∙ ap (run_from schema txn.update sofar.vars sofar.now) dropped
          ∙ ap (λ (first : Stepped). with_first first.reply (run_from schema txn.update first.vars first.graph (drop (length more) txn.commands))) done.steps in
          record {
            vars = done.then;
            now = done.next;
            means = done.means;
            left = run_from schema txn.update done.then done.next (drop (length more) txn.commands);
            run = refl;
            all =
                sofar.all
                ∙ ap (λ (r : Ran). record { replies = replies ++ r.replies; graph = r.graph }) ran
                ∙ ap (λ (l : List Reply). record { replies = l; graph = (run_from schema txn.update done.then done.next (drop (length more) txn.commands)).graph })
                (sym (append_assoc replies (line.reply ∷ []) (run_from schema txn.update done.then done.next (drop (length more) txn.commands)).replies)
                ∙ ap (λ (l : List Reply). l ++ (run_from schema txn.update done.then done.next (drop (length more) txn.commands)).replies) (sym line.last));
          };
      few = omega arith;
      taken = subst (λ (n : ℕ). TakesAtMost n begun new) (sym counted) (takes_more (length replies) 1 begun old new run.taken line.executes.taken);
      reads = λ reading. line.executes.reads reading ∙ run.reads reading;
      count = line.executes.pages.count ∙ run.count;
    }

pub meanings : LawOfMeanings
meanings schema txn replies leads begun list run =
    let graph = graph_exists schema begun run.opened.cells_kept in
    let along = run.along graph.0 graph.1 in
    record { vars = along.vars; graph = along.now; means = along.means }

none_left : (commands : List Command) (n : ℕ) → length commands ≤ n → drop n commands ≡ []
none_left [] zero high = refl
none_left [] (suc n) high = refl
none_left (command ∷ commands) zero high = absurd (omega arith)
none_left (command ∷ commands) (suc n) high = none_left commands n (omega arith)

-- there are no more commands than a transaction may take pages
grows_by : (graph : Graph) (commands : List Command) → length commands ≤ growth graph commands
grows_by graph commands = omega arith

pub last_lines : LawOfLastLines
last_lines schema txn replies leads begun list run high =
    let graph = graph_exists schema begun run.opened.cells_kept in
    let few = run.few in
    record {
      valid = (run.along graph.0 graph.1).means.valid;
      does = λ graph stands.
          let all = run.along graph stands in
          let none : all.left ≡ record { replies = []; graph = all.now } = sym all.run ∙ ap (run_from schema txn.update all.vars all.now) (none_left txn.commands (length replies) high) in
          (all.now, all.all ∙ ap (λ (r : Ran). record { replies = replies ++ r.replies; graph = r.graph }) none ∙ ap (λ (l : List Reply). record { replies = l; graph = all.now }) (append-nil replies), all.means.stands);
      taken = λ graph free has.
          let rest = run.taken free has in
          let less = rest.2 in
          let grows = grows_by graph txn.commands in
          (rest.0, rest.1, omega arith);
    }

-- a transaction whose next line finds no place began with fewer free pages than it may take
pub lacks_growth : (schema : Schema) (txn : Txn) (replies : List Reply) (leads : Leads) (begun old : List PageImage) (lack : NoSpace) → HasRun schema txn replies leads begun old → LacksLine schema txn replies lack old → LacksGrowth txn begun
lacks_growth schema txn replies leads begun old lack run lacks graph free has =
    let rest = run.taken free has in
    let less = rest.2 in
    let none : rest.0 ≡ [] = same_free old rest.0 [] rest.1 lacks.2.full.none_free in
    let nothing : length rest.0 ≡ 0 = ap (λ (l : List ℕ). length l) none in
    let there = slice_get_within txn.commands (length replies) lacks.0 lacks.1 in
    let grows = grows_by graph txn.commands in
    omega arith

-- a transaction may take two pages a command
grows_twice : (graph : Graph) (commands : List Command) → 2 * length commands ≤ growth graph commands
grows_twice graph commands = omega arith

module _ (schema : Schema) (txn : Txn) (replies : List Reply) (leads : Leads) (begun list : List PageImage) (run : HasRun schema txn replies leads begun list) where
  has_least : 10 ≤ length list
  has_least =
      let known = graph_exists schema begun run.opened.cells_kept in
      let least = (run.along known.0 known.1).means.valid.pages_kept.allocated.least in
      omega arith

  module _ (left : length replies < length txn.commands) (pages : List ℕ) (once : AllPairs (λ page later. page ≢ later) pages) (are : (page : ℕ) → Contains pages page → IsTriedPage txn.update list page) (graph : Graph) (free : List ℕ) (has : HasFree begun free) where
    -- the pages that its lines try
    few_tried : (update : Bool) → txn.update ≡ update → length pages + 10 + length free < 2 + length begun + growth graph (if update then txn.commands else [])
    few_tried true may =
        let rest = run.taken free has in
        let less = rest.2 in
        let few = few_pages list rest.0 rest.1 txn.update has_least pages once are in
        let count = run.count in
        let grows = grows_twice graph txn.commands in
        omega arith
    few_tried false reading =
        let few = few_in_read list free (subst (λ (l : List PageImage). HasFree l free) (sym (run.reads reading)) has) txn.update reading has_least pages once are in
        let count = run.count in
        omega arith

pub few_lines : LawOfFewPages
few_lines schema txn replies leads begun list run left pages once are graph free has = few_tried schema txn replies leads begun list run left pages once are graph free has txn.update refl

-- and those that are in view
pub few_in_view : (schema : Schema) (txn : Txn) (replies : List Reply) (leads : Leads) (begun list : List PageImage) (holding : PagesHeld) → HasRun schema txn replies leads begun list → length replies < length txn.commands → SeesOneMore txn.update holding list → HasFewInView holding txn begun
few_in_view schema txn replies leads begun list holding run left sees pages once there = few_lines schema txn replies leads begun list run left pages once (λ page among. sees page (there page among))
