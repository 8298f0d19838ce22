-- A transaction that finds too few pages somewhere in a history: they were too few for the script at the beginning.
use Rattle.std.proofs.Common.{◌≡◌, ℕ, ◌+◌, ◌<◌, ◌≤◌, Bool, true, false, List, [], ◌∷◌, ◌++◌, length, get_or, Option, Some, refl, sym, ap, subst, ◌∙◌, arith}
use Rattle.std.specs.Prelude.{All, AllPairs, filter, flat_map, nat_eq, if◌then◌else◌}
use Rattle.std.specs.FinMap as maps
use Rattle.std.specs.List.{sum_by}
use Rattle.std.proofs.lemmas.Bool.{eq-eqb}
use Rattle.std.proofs.lemmas.List.{length-append}
use Rattle.std.proofs.lemmas.List.Elements.{All-push, filter-append}
use Rattle.std.proofs.lemmas.List.Quantifiers.{all_pairs_push}
use Rattle.std.proofs.lemmas.List.Sums.{sum_by-append, sum_by-cons}
use Rattle.ostore_base.specs.declared.page.PageImage.{PageImage}
use Rattle.ostore_page_tags.specs.declared.layout.TheConstants.{FIRST_OPEN_PAGE}
use Rattle.ostore_page_tags.specs.Allocated.{HasFree}
use Rattle.ostore_graph_model.specs.declared.commands.Command.{Command}
use Rattle.ostore_graph_model.specs.declared.commands.Txn.{Txn}
use Rattle.ostore_graph_model.specs.declared.commands.Script.{Script}
use Rattle.ostore_graph_model.specs.declared.history.Entry.{Entry}
use Rattle.ostore_graph_model.specs.Graph.{Graph}
use Rattle.ostore_graph_model.specs.Growth.{growth_by, growth, script_growth, declares, update_commands}
use Rattle.ostore_graph_model.specs.History.{txn_at}
use Rattle.ostore_graph_model.specs.StandsFor.{StandsFor}
use Rattle.ostore_graph_model.proofs.GraphExists.{graph_exists}
use Rattle.ostore_graph_model.proofs.UniqueLaws.{one_graph}
use Rattle.ostore_object_ops.specs.Executes.{TakesAtMost}
use Rattle.ostore_object_ops.proofs.NewFacts.{same_free}
use Rattle.ostore_page_service.specs.History.{Follows as FollowsOn, Leads, InOrder, IsReached}
use Rattle.ostore_page_service.proofs.HistoryLaws.{from_filter}
use Rattle.ostore_client_core.specs.Kinds.{Follows, graph_meaning}
use Rattle.ostore_graph_history.specs.Space.{IsAhead, LawOfLackedSpace, LawOfFewPages}
use Rattle.ostore_graph_history.proofs.GrowthSums.{growth_rises, growth_adds, takes_more}
use Rattle.ostore_graph_history.proofs.HistoryLaws.{client_of}
use Rattle.ostore_graph_history.proofs.StepGrowth.{IsGrown, unchanged, transaction_grows}
use Rattle.ostore_graph_history.proofs.Weights.{IsNamed, made_by, all_weigh, commands_of}

-- how many commands there are, and how many declare an index
abbrev count : List Command → ℕ
count commands = length commands

abbrev declared : List Command → ℕ
declared commands = length (filter declares commands)

count-append : (xs ys : List Command) → count (xs ++ ys) ≡ count xs + count ys
count-append xs ys = length-append xs ys

declared-append : (xs ys : List Command) → declared (xs ++ ys) ≡ declared xs + declared ys
declared-append xs ys = ap (λ (zs : List Command). length zs) (filter-append declares xs ys) ∙ length-append (filter declares xs) (filter declares ys)

update_all : (txn : Txn) → txn.update ≡ true → update_commands txn ≡ txn.commands
update_all txn update = ap (λ (b : Bool). if b then txn.commands else []) update

module _ (script : Script) where
  abbrev commands_in : Entry × ℕ → ℕ
  commands_in e = count (made_by script e)

  abbrev declared_in : Entry × ℕ → ℕ
  declared_in e = declared (made_by script e)

  weight_is : (f : List Command → ℕ) (e : Entry × ℕ) (txn : Txn) → txn_at script e.0.client.0 e.0.ordinal ≡ Some txn → f (made_by script e) ≡ f (update_commands txn)
  weight_is f e txn named = ap (λ (o : Option Txn). f (commands_of o)) named

  weighs : (f : List Command → ℕ) (e : Entry × ℕ) (txn : Txn) → txn_at script e.0.client.0 e.0.ordinal ≡ Some txn → txn.update ≡ true → f (made_by script e) ≡ f txn.commands
  weighs f e txn named update = weight_is f e txn named ∙ ap f (update_all txn update)

  -- ---- what a history takes

  -- the graph at its end, and how many pages were taken, where graphs stay within these limits
  record Takes (p i n : ℕ) (xs : List PageImage) (graph : Graph) (commands indexes : ℕ) (ys : List PageImage) : Type 0 where
    last : Graph
    stands : StandsFor script.schema ys last
    grown : IsGrown commands indexes graph last
    taken : TakesAtMost (growth_by commands p i n) xs ys

  module _ (p i n : ℕ) where
    -- a graph, with so many commands and indexes more, is within the limits
    record IsWithin (commands indexes : ℕ) (graph : Graph) : Type 0 where
      pairs : maps.len graph.pairs + commands ≤ p
      indexes_in : maps.len graph.indexes + indexes ≤ i
      names : maps.len graph.objects + commands ≤ n

    update_takes : (b k : ℕ) (xs mid : List PageImage) (e : Entry × ℕ) (graph : Graph) → StandsFor script.schema xs graph → e.0.update ≡ true → FollowsOn graph_meaning script true b xs e k mid
        → IsWithin (commands_in e) (declared_in e) graph → Takes p i n xs graph (commands_in e) (declared_in e) mid
    update_takes b k xs mid e graph stands update follows within =
        let next : Follows script e.0 xs mid = follows.3 in
        let same : next.graph ≡ graph = one_graph script.schema xs next.graph graph next.stands stands in
        let kind : next.txn.update ≡ true = sym next.names.kind ∙ update in
        let made : commands_in e ≡ count next.txn.commands = weighs count e next.txn next.names.named kind in
        let told : declared_in e ≡ declared next.txn.commands = weighs declared e next.txn next.names.named kind in
        let grown = transaction_grows script.schema next.txn next.graph next.after e.0.replies next.runs in
        let grows : growth next.graph next.txn.commands ≤ growth_by (commands_in e) p i n =
        subst (λ (g : Graph). growth g next.txn.commands ≤ growth_by (commands_in e) p i n) (sym same)
        (growth_rises (count next.txn.commands) (maps.len graph.pairs + count next.txn.commands) (maps.len graph.indexes + declared next.txn.commands) (maps.len graph.objects + count next.txn.commands)
        (commands_in e) p i n (omega (arith, made)) (omega (arith, made, within.pairs)) (omega (arith, told, within.indexes_in)) (omega (arith, made, within.names))) in
        record {
          last = next.after;
          stands = next.stands_after;
          grown = subst (λ (z : ℕ × ℕ × Graph). IsGrown z.0 z.1 z.2 next.after) (λ j. (sym made j, sym told j, same j)) grown;
          taken = λ free has.
              let whole : length free ≡ length next.free = ap (λ (l : List ℕ). length l) (same_free xs free next.free has next.has_free) in
              (next.free_after, next.has_free_after, omega (arith, whole, next.growth, grows));
        }

    read_takes : (b k : ℕ) (xs mid : List PageImage) (e : Entry × ℕ) (graph : Graph) → StandsFor script.schema xs graph → FollowsOn graph_meaning script false b xs e k mid
        → Takes p i n xs graph (commands_in e) (declared_in e) mid
    read_takes b k xs mid e graph stands follows =
        let same = sym follows.3 in
        record {
          last = graph;
          stands = subst (λ (list : List PageImage). StandsFor script.schema list graph) same stands;
          grown = unchanged (commands_in e) (declared_in e) graph;
          taken = λ free has. (free, subst (λ (list : List PageImage). HasFree list free) same has, omega arith);
        }

    entry_takes : (b k : ℕ) (xs mid : List PageImage) (e : Entry × ℕ) (graph : Graph) → StandsFor script.schema xs graph → (update : Bool) → e.0.update ≡ update → FollowsOn graph_meaning script update b xs e k mid
        → IsWithin (commands_in e) (declared_in e) graph → Takes p i n xs graph (commands_in e) (declared_in e) mid
    entry_takes b k xs mid e graph stands true is follows within = update_takes b k xs mid e graph stands is follows within
    entry_takes b k xs mid e graph stands false is follows within = read_takes b k xs mid e graph stands follows

    history_takes : (b : ℕ) (xs : List PageImage) (graph : Graph) → StandsFor script.schema xs graph → (es : List (Entry × ℕ)) (m : ℕ) (ys : List PageImage) → Leads graph_meaning script b xs es m ys
        → IsWithin (sum_by commands_in es) (sum_by declared_in es) graph → Takes p i n xs graph (sum_by commands_in es) (sum_by declared_in es) ys
    history_takes b xs graph stands [] m ys leads within =
        let same = sym leads.1 in
        record {
          last = graph;
          stands = subst (λ (list : List PageImage). StandsFor script.schema list graph) same stands;
          grown = unchanged 0 0 graph;
          taken = λ free has. (free, subst (λ (list : List PageImage). HasFree list free) same has, omega arith);
        }
    history_takes b xs graph stands (e ∷ es) m ys leads within =
        let commands = sum_by-cons commands_in e es in
        let indexes = sum_by-cons declared_in e es in
        let one = entry_takes b leads.0 xs leads.1 e graph stands e.0.update refl leads.2
        (record { pairs = omega (arith, within.pairs, commands); indexes_in = omega (arith, within.indexes_in, indexes); names = omega (arith, within.names, commands) }) in
        let rest = history_takes leads.0 leads.1 one.last one.stands es m ys leads.3
        (record {
          pairs = omega (arith, within.pairs, commands, one.grown.pairs);
          indexes_in = omega (arith, within.indexes_in, indexes, one.grown.indexes);
          names = omega (arith, within.names, commands, one.grown.names);
        }) in
        record {
          last = rest.last;
          stands = rest.stands;
          grown = record {
            names = omega (arith, one.grown.names, rest.grown.names, commands);
            pairs = omega (arith, one.grown.pairs, rest.grown.pairs, commands);
            indexes = omega (arith, one.grown.indexes, rest.grown.indexes, indexes);
          };
          taken = subst (λ (c : ℕ). TakesAtMost c xs ys)
              (sym (growth_adds (commands_in e) (sum_by commands_in es) p i n) ∙ ap (λ (c : ℕ). growth_by c p i n) (sym commands))
              (takes_more (growth_by (commands_in e) p i n) (growth_by (sum_by commands_in es) p i n) xs leads.1 ys one.taken rest.taken);
        }

-- ---- with the transaction ahead

-- the entry that the transaction would make
ahead_entry : ℕ → ℕ → Bool → Entry × ℕ
ahead_entry client ordinal update = (record { client = record { 0 = client }; ordinal = ordinal; update = update; replies = [] }, 0)

abbrev all_commands : Script → List Command
all_commands script = flat_map (flat_map update_commands) script.clients

-- Of the pages that were free in the opened list at most so many are free no more, and with what the transaction may take
-- of the list they are no more than what the script may take of the opened one.
record Accounts (script : Script) (opened list : List PageImage) (txn : Txn) : Type 0 where
  graph : Graph
  stands : StandsFor script.schema opened graph
  last : Graph
  free : List ℕ
  has_free : HasFree opened free
  left : List ℕ
  has_left : HasFree list left
  taken : ℕ
  fewer : length free ≤ length left + taken
  together : taken + growth last (update_commands txn) ≤ script_growth graph script

accounts : (script : Script) (first n client ordinal : ℕ) (opened list : List PageImage) (records : List (Entry × ℕ)) → IsReached graph_meaning script first opened client records n list
    → (txn : Txn) → IsAhead script client ordinal txn records → Accounts script opened list txn
unfolding ahead_entry
accounts script first n client ordinal opened list records reached txn ahead =
    let h = reached.history in
    let legal = reached.legal in
    let e = ahead_entry client ordinal txn.update in
    let own = update_commands txn in
    let graph = graph_exists script.schema opened legal.opened_valid.cells_kept in
    let named : All (IsNamed script) (reached.history ++ ahead_entry client ordinal txn.update ∷ []) =
    All-push (IsNamed script) h e (λ k d lt. record { txn = (legal.named k d lt).0; named = (legal.named k d lt).1.named }) (record { txn = txn; named = ahead.named }) in
    let order : AllPairs (InOrder graph_meaning script) (reached.history ++ ahead_entry client ordinal txn.update ∷ []) =
    all_pairs_push (InOrder graph_meaning script) h e legal.order
    (λ k d lt same. from_filter (λ (r : Entry × ℕ). nat_eq (graph_meaning.client r.0) client) (λ (r : Entry × ℕ). r.0.ordinal < ordinal) h
    (subst (All (λ (r : Entry × ℕ). r.0.ordinal < ordinal)) (sym reached.mine) ahead.rises) k d lt (eq-eqb (client_of (get_or h k d)) client same)) in
    let commands = all_weigh count count-append script (reached.history ++ ahead_entry client ordinal txn.update ∷ []) named order in
    let indexes = all_weigh declared declared-append script (reached.history ++ ahead_entry client ordinal txn.update ∷ []) named order in
    let own_commands : commands_in script (ahead_entry client ordinal txn.update) ≡ count (update_commands txn) = weight_is script count e txn ahead.named in
    let own_indexes : declared_in script (ahead_entry client ordinal txn.update) ≡ declared (update_commands txn) = weight_is script declared e txn ahead.named in
    let split_commands = sum_by-append (commands_in script) h (ahead_entry client ordinal txn.update ∷ []) in
    let split_indexes = sum_by-append (declared_in script) h (ahead_entry client ordinal txn.update ∷ []) in
    let last_commands = sum_by-cons (commands_in script) e [] in
    let last_indexes = sum_by-cons (declared_in script) e [] in
    let p = maps.len graph.0.pairs + count (all_commands script) in
    let i = maps.len graph.0.indexes + declared (all_commands script) in
    let m = maps.len graph.0.objects + count (all_commands script) in
    let takes = history_takes script p i m first opened graph.0 graph.1 h n list legal.leads
    (record {
      pairs = omega (arith, commands, split_commands);
      indexes_in = omega (arith, indexes, split_indexes);
      names = omega (arith, commands, split_commands);
    }) in
    let free = legal.opened_valid.pages_kept.allocated.chains in
    let has : HasFree opened free.0 = free.2.free_list in
    let rest = takes.taken free.0 has in
    let taken = growth_by (sum_by (commands_in script) h) p i m in
    let most = growth_rises (count own) (maps.len takes.last.pairs + count own) (maps.len takes.last.indexes + declared own) (maps.len takes.last.objects + count own)
    (count own) p i m (omega arith)
    (omega (arith, takes.grown.pairs, commands, split_commands, last_commands, own_commands))
    (omega (arith, takes.grown.indexes, indexes, split_indexes, last_indexes, own_indexes))
    (omega (arith, takes.grown.names, commands, split_commands, last_commands, own_commands)) in
    let both = growth_adds (sum_by (commands_in script) h) (count own) p i m in
    let all = growth_rises (sum_by (commands_in script) h + count own) p i m (count (all_commands script)) p i m (omega (arith, commands, split_commands, last_commands, own_commands)) (omega arith) (omega arith) (omega arith) in
    record {
      graph = graph.0;
      stands = graph.1;
      last = takes.last;
      free = free.0;
      has_free = has;
      left = rest.0;
      has_left = rest.1;
      taken = taken;
      fewer = rest.2;
      together = adds_up taken (growth takes.last own) (growth_by (count own) p i m) (growth_by (sum_by (commands_in script) h + count own) p i m) (growth_by (count (all_commands script)) p i m) most both all;
    }
  where
    adds_up : (taken own most both all : ℕ) → own ≤ most → both ≡ taken + most → both ≤ all → taken + own ≤ all
    adds_up taken own most both all within adds together = omega (arith, within, adds, together)

pub space_law : LawOfLackedSpace
space_law script first n client ordinal opened list records reached txn ahead update lacks =
    let all = accounts script first n client ordinal opened list records reached txn ahead in
    let short : length all.left < growth all.last (update_commands txn) =
    subst (λ (commands : List Command). length all.left < growth all.last commands) (sym (update_all txn update)) (lacks all.last all.left all.has_left) in
    record {
      graph = all.graph;
      stands = all.stands;
      free = all.free;
      has_free = all.has_free;
      lacks = below (length all.free) (length all.left) all.taken _ _ all.fewer short all.together;
    }
  where
    below : (free left taken own all : ℕ) → free ≤ left + taken → left < own → taken + own ≤ all → free < all
    below free left taken own all first short together = omega (arith, first, short, together)

pub few_law : LawOfFewPages
few_law script first n client ordinal opened list records reached txn ahead pages few =
    let all = accounts script first n client ordinal opened list records reached txn ahead in
    record {
      graph = all.graph;
      stands = all.stands;
      free = all.free;
      has_free = all.has_free;
      below = below pages FIRST_OPEN_PAGE (length all.free) (length all.left) all.taken (length list) (length opened) _ _ all.fewer (few all.last all.left all.has_left) reached.legal.long all.together;
    }
  where
    below : (n first free left taken now opened own all : ℕ) → free ≤ left + taken → n + first + left < 2 + now + own → now ≡ opened → taken + own ≤ all → n + first + free < 2 + opened + all
    below n first free left taken now opened own all fewer few long together = omega (arith, fewer, few, long, together)
