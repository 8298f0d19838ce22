-- Commands keep a graph that holds live objects alone.
use Rattle.std.proofs.Common.{◌≡◌, ◌≢◌, ℕ, ◌≤◌, Bool, true, false, List, [], ◌∷◌, ◌++◌, length, Option, Some, None, refl, sym, ap, subst, ◌∙◌, arith, cond}
use Rattle.std.specs.Prelude.{not, ◌&&◌, ◌||◌, is_some, nat_le, unwrap_or, slice_set, ◌==◌, if◌then◌else◌}
use Rattle.std.proofs.lemmas.Bool.{leb-false}
use Rattle.std.specs.FinMap as maps
use Rattle.std.specs.Ordering.{eq_by_cmp}
use Rattle.std.specs.Cmp.{IsTotalOrder}
use Rattle.std.specs.List.{list_any}
use Rattle.std.specs.declared.cmp.Ordering.{Ordering}
use Rattle.ostore_schema_layout.specs.declared.schema.Schema.{Schema}
use Rattle.ostore_schema_layout.specs.declared.schema.Inverse.{Inverse}
use Rattle.ostore_schema_layout.specs.Numbers.{type_named}
use Rattle.ostore_graph_model.specs.declared.values.Name.{Name}
use Rattle.ostore_graph_model.specs.declared.refusal.Refusal.TheVariants.{OutOfRange}
use Rattle.ostore_graph_model.specs.declared.commands.Command.{Command}
use Rattle.ostore_graph_model.specs.declared.commands.Command.TheVariants.{New, Find, Root, SetRoot, Get, Set, Follow, Delete, Insert, Remove, Members, Size, Append, Put, At, Bind, Look, Unbind, Index, Unindex, Query}
use Rattle.ostore_graph_model.specs.declared.commands.Operand.TheVariants as operands
use Rattle.ostore_graph_model.specs.Sets as sets
use Rattle.ostore_graph_model.specs.Orders.{name_cmp, text_cmp, TypeMember, Pair, pair_cmp, ObjectMember, object_member_cmp, PathIndex, index_cmp}
use Rattle.ostore_graph_model.specs.Graph.{Graph, Object, Dictionary, is_drawn, is_live, empty_graph}
use Rattle.ostore_graph_model.specs.Kinds.{no_type}
use Rattle.ostore_graph_model.specs.Links.{same_name, comes_first, member_of_inverse, pair_from, pair_at, inverse_at, is_displaced, joined, goes_with, is_two_sided}
use Rattle.ostore_graph_model.specs.Deeds.{Vars, Stepped, bound_to, own_member, of_other_type}
use Rattle.ostore_graph_model.specs.Deeds.Objects.{next_name, new_object, with_new, without_object}
use Rattle.ostore_graph_model.specs.Deeds.Collections.{items_of, out_of_range}
use Rattle.ostore_graph_model.specs.Step.{line_of, is_dangling, step}
use Rattle.ostore_graph_model.specs.LiveGraphs.{IsLive, HoldsLive, LawOfLiveGraphs}
use Rattle.ostore_graph_model.proofs.PassedLaws.{split, passes, one_live, two_live, TaskMay, step_may}
use Rattle.ostore_graph_model.proofs.StepLaws.{task_keeps, names_new}
use Rattle.std.proofs.lemmas.List.{length-set}
use Rattle.ostore_graph_model.proofs.OrderLaws.{tied_same, name_cmp-IsTotalOrder, name_cmp-IsAntisymmetric, pair_cmp-IsTotalOrder, pair_cmp-IsAntisymmetric, object_member_cmp-IsTotalOrder, object_member_cmp-IsAntisymmetric, index_cmp-IsTotalOrder, index_cmp-IsAntisymmetric}

-- ---- what is in a map after a change

kept_some : {X : Type 0} (b : Bool) (o : Option X) → is_some (cond b o None) ≡ true → (b ≡ true) × (is_some o ≡ true)
kept_some true o e = (refl, e)
kept_some false o e = absurd cc

kept_value : {X : Type 0} (b : Bool) (o : Option X) (x : X) → cond b o None ≡ Some x → (b ≡ true) × (o ≡ Some x)
kept_value true o x e = (refl, e)
kept_value false o x e = absurd cc

other_some : {X : Type 0} (b : Bool) (o : Option X) → is_some (cond b None o) ≡ true → (b ≡ false) × (is_some o ≡ true)
other_some true o e = absurd cc
other_some false o e = (refl, e)

other_value : {X : Type 0} (b : Bool) (o : Option X) (x : X) → cond b None o ≡ Some x → (b ≡ false) × (o ≡ Some x)
other_value true o x e = absurd cc
other_value false o x e = (refl, e)

put_some : {X : Type 0} (b : Bool) (v : X) (o : Option X) → is_some o ≡ true → is_some (cond b (Some v) o) ≡ true
put_some true v o e = refl
put_some false v o e = e

same_value : {X : Type 0} (v x : X) → Some v ≡ Some x → v ≡ x
same_value v x e = ap (λ o. unwrap_or o x) e

module _ {K X : Type 0} {R : K → K → Ordering} (o : IsTotalOrder R) (same : maps.IsAntisymmetric R) where
  retained : (m : maps.FinMap R X) (p : K → Bool) (q : K) → maps.get (maps.retain_keys m p) q ≡ cond (p q) (maps.get m q) None
  retained m p q = maps.get-retain_keys m p q (λ x e. ap p (sym (same q x e)))

  pub in_retained : (m : maps.FinMap R X) (p : K → Bool) (q : K) → maps.contains_key (maps.retain_keys m p) q ≡ true → (p q ≡ true) × (maps.contains_key m q ≡ true)
  in_retained m p q there = kept_some (p q) (maps.get m q) (sym (ap is_some (retained m p q)) ∙ there)

  pub value_retained : (m : maps.FinMap R X) (p : K → Bool) (q : K) (x : X) → maps.get (maps.retain_keys m p) q ≡ Some x → (p q ≡ true) × (maps.get m q ≡ Some x)
  value_retained m p q x there = kept_value (p q) (maps.get m q) x (sym (retained m p q) ∙ there)

  pub in_removed : (m : maps.FinMap R X) (k q : K) → maps.contains_key (maps.remove m k) q ≡ true → maps.contains_key m q ≡ true
  in_removed m k q there = (other_some (eq_by_cmp R q k) (maps.get m q) (sym (ap is_some (maps.get-remove o m k q)) ∙ there)).1

  pub value_removed : (m : maps.FinMap R X) (k q : K) (x : X) → maps.get (maps.remove m k) q ≡ Some x → maps.get m q ≡ Some x
  value_removed m k q x there = (other_value (eq_by_cmp R q k) (maps.get m q) x (sym (maps.get-remove o m k q) ∙ there)).1

  still_there : (m : maps.FinMap R X) (k : K) (v : X) (q : K) → maps.contains_key m q ≡ true → maps.contains_key (maps.insert m k v) q ≡ true
  still_there m k v q there = ap is_some (maps.get-insert o m k v q) ∙ put_some (eq_by_cmp R q k) v (maps.get m q) there

  -- what is there after an insertion is new or was there
  module _ (P : K → Type 0) (m : maps.FinMap R X) (k : K) (v : X) (q : K) (here : P k) (was : maps.contains_key m q ≡ true → P q) where
    by_test : (b : Bool) → eq_by_cmp R q k ≡ b → is_some (cond b (Some v) (maps.get m q)) ≡ true → P q
    by_test true tie there = subst P (sym (tied_same same q k tie)) here
    by_test false apart there = was there

    pub new_or_old : maps.contains_key (maps.insert m k v) q ≡ true → P q
    new_or_old there = by_test (eq_by_cmp R q k) refl (sym (ap is_some (maps.get-insert o m k v q)) ∙ there)

  module _ (P : K → X → Type 0) (m : maps.FinMap R X) (k : K) (v : X) (q : K) (x : X) (here : P k v) (was : maps.get m q ≡ Some x → P q x) where
    value_by_test : (b : Bool) → eq_by_cmp R q k ≡ b → cond b (Some v) (maps.get m q) ≡ Some x → P q x
    value_by_test true tie there = subst (λ y. P y x) (sym (tied_same same q k tie)) (subst (P k) (same_value v x there) here)
    value_by_test false apart there = was there

    pub new_or_old_value : maps.get (maps.insert m k v) q ≡ Some x → P q x
    new_or_old_value there = value_by_test (eq_by_cmp R q k) refl (sym (maps.get-insert o m k v q) ∙ there)

-- ---- changes of one part of a graph

either : (b c : Bool) → not (b || c) ≡ true → (b ≡ false) × (c ≡ false)
either true c e = absurd cc
either false true e = absurd cc
either false false e = (refl, refl)

not_false : (b : Bool) → not b ≡ true → b ≡ false
not_false true e = absurd cc
not_false false e = refl

both_true : (b c : Bool) → (b && c) ≡ false → b ≡ true → c ≡ false
both_true true c e t = e
both_true false c e t = absurd cc

module _ (schema : Schema) (graph : Graph) (was : HoldsLive schema graph) where
  with_pairs : (pairs : sets.FinSet pair_cmp)
      → ((pair : Pair) → sets.contains pairs pair ≡ true → IsLive graph pair.first × (is_two_sided schema pair.link ≡ true → IsLive graph pair.second))
      → HoldsLive schema (record graph { pairs = pairs })
  with_pairs pairs live = record {
    drawn = was.drawn;
    first = λ pair there. (live pair there).0;
    second = λ pair there. (live pair there).1;
    lists = was.lists;
    dictionaries = was.dictionaries;
    indexes = was.indexes;
  }

  old_pair : (pair : Pair) → sets.contains graph.pairs pair ≡ true → IsLive graph pair.first × (is_two_sided schema pair.link ≡ true → IsLive graph pair.second)
  old_pair pair there = (was.first pair there, was.second pair there)

  some_pairs : (test : Pair → Bool) → HoldsLive schema (record graph { pairs = sets.retain graph.pairs test })
  some_pairs test = with_pairs (sets.retain graph.pairs test) (λ pair there. old_pair pair (in_retained pair_cmp-IsTotalOrder pair_cmp-IsAntisymmetric graph.pairs test pair there).1)

  less_pair : (one : Pair) → HoldsLive schema (record graph { pairs = sets.remove graph.pairs one })
  less_pair one = with_pairs (sets.remove graph.pairs one) (λ pair there. old_pair pair (in_removed pair_cmp-IsTotalOrder pair_cmp-IsAntisymmetric graph.pairs one pair there))

  -- both objects of a new pair are live
  new_pair : (member : TypeMember) (inverse : Option Inverse) (x y : Name) → IsLive graph x → IsLive graph y → IsLive graph (pair_from member inverse x y).first × IsLive graph (pair_from member inverse x y).second
  new_pair member None x y lx ly = (lx, ly)
  new_pair member (Some inverse) x y lx ly =
      elim (comes_first member (Some inverse)) as (λ b.
      let p : Pair = if b then record { link = member; first = x; second = y } else record { link = member_of_inverse inverse; first = y; second = x } in
      IsLive graph p.first × IsLive graph p.second) [ true ↦ (lx, ly) | false ↦ (ly, lx) ]

  joined_keeps : (member : TypeMember) (x y : Name) → IsLive graph x → IsLive graph y → HoldsLive schema (record graph { pairs = joined schema member x y graph.pairs })
  joined_keeps member x y lx ly =
      let ends = new_pair member (inverse_at schema member) x y lx ly in
      let test : Pair → Bool = λ pair. not (is_displaced schema member x y pair) in
      with_pairs (joined schema member x y graph.pairs) (λ pair there.
      new_or_old pair_cmp-IsTotalOrder pair_cmp-IsAntisymmetric (λ p. IsLive graph p.first × (is_two_sided schema p.link ≡ true → IsLive graph p.second))
      (sets.retain graph.pairs test) (pair_at schema member x y) tt pair (ends.0, λ two. ends.1)
      (λ old. old_pair pair (in_retained pair_cmp-IsTotalOrder pair_cmp-IsAntisymmetric graph.pairs test pair old).1) there)

  with_lists : (lists : maps.FinMap object_member_cmp (List Name))
      → ((at : ObjectMember) (items : List Name) → maps.get lists at ≡ Some items → (items ≢ []) × IsLive graph at.object)
      → HoldsLive schema (record graph { lists = lists })
  with_lists lists live = record { drawn = was.drawn; first = was.first; second = was.second; lists = live; dictionaries = was.dictionaries; indexes = was.indexes }

  list_put : (at : ObjectMember) (items : List Name) → items ≢ [] → IsLive graph at.object → HoldsLive schema (record graph { lists = maps.insert graph.lists at items })
  list_put at items some live =
      with_lists (maps.insert graph.lists at items) (λ q xs there.
      new_or_old_value object_member_cmp-IsTotalOrder object_member_cmp-IsAntisymmetric (λ k ys. (ys ≢ []) × IsLive graph k.object)
      graph.lists at items q xs (some, live) (was.lists q xs) there)

  with_dictionaries : (dictionaries : maps.FinMap object_member_cmp Dictionary)
      → ((at : ObjectMember) (bindings : Dictionary) → maps.get dictionaries at ≡ Some bindings → (maps.len bindings ≢ 0) × IsLive graph at.object)
      → HoldsLive schema (record graph { dictionaries = dictionaries })
  with_dictionaries dictionaries live = record { drawn = was.drawn; first = was.first; second = was.second; lists = was.lists; dictionaries = live; indexes = was.indexes }

  dictionary_put : (at : ObjectMember) (bindings : Dictionary) → IsLive graph at.object
      → HoldsLive schema (record graph { dictionaries = if maps.len bindings == 0 then maps.remove graph.dictionaries at else maps.insert graph.dictionaries at bindings })
  dictionary_put at bindings live = by_length (maps.len bindings == 0) (λ none. eqb_no (maps.len bindings) none)
    where
      eqb_no : (n : ℕ) → (n == 0) ≡ false → n ≢ 0
      eqb_no n e z = absurd (let t : (n == 0) ≡ true = ap (λ m. m == 0) z in let f : true ≡ false = sym t ∙ e in cc)

      by_length : (b : Bool) → (b ≡ false → maps.len bindings ≢ 0) → HoldsLive schema (record graph { dictionaries = if b then maps.remove graph.dictionaries at else maps.insert graph.dictionaries at bindings })
      by_length true some = with_dictionaries (maps.remove graph.dictionaries at) (λ q ds there. was.dictionaries q ds (value_removed object_member_cmp-IsTotalOrder object_member_cmp-IsAntisymmetric graph.dictionaries at q ds there))
      by_length false some =
          with_dictionaries (maps.insert graph.dictionaries at bindings) (λ q ds there.
          new_or_old_value object_member_cmp-IsTotalOrder object_member_cmp-IsAntisymmetric (λ k es. (maps.len es ≢ 0) × IsLive graph k.object)
          graph.dictionaries at bindings q ds (some refl, live) (was.dictionaries q ds) there)

  with_indexes : (indexes : sets.FinSet index_cmp) → ((index : PathIndex) → sets.contains indexes index ≡ true → IsLive graph index.set.object) → HoldsLive schema (record graph { indexes = indexes })
  with_indexes indexes live = record { drawn = was.drawn; first = was.first; second = was.second; lists = was.lists; dictionaries = was.dictionaries; indexes = live }

  index_put : (index : PathIndex) → IsLive graph index.set.object → HoldsLive schema (record graph { indexes = sets.insert graph.indexes index })
  index_put index live =
      with_indexes (sets.insert graph.indexes index) (λ q there.
      new_or_old index_cmp-IsTotalOrder index_cmp-IsAntisymmetric (λ k. IsLive graph k.set.object) graph.indexes index tt q live (was.indexes q) there)

  index_removed : (index : PathIndex) → HoldsLive schema (record graph { indexes = sets.remove graph.indexes index })
  index_removed index = with_indexes (sets.remove graph.indexes index) (λ q there. was.indexes q (in_removed index_cmp-IsTotalOrder index_cmp-IsAntisymmetric graph.indexes index q there))

  roots_changed : (roots : maps.FinMap text_cmp Name) → HoldsLive schema (record graph { roots = roots })
  roots_changed roots = record { drawn = was.drawn; first = was.first; second = was.second; lists = was.lists; dictionaries = was.dictionaries; indexes = was.indexes }

  -- more objects, all of them drawn
  with_objects : (after : Graph) → after.pairs ≡ graph.pairs → after.lists ≡ graph.lists → after.dictionaries ≡ graph.dictionaries → after.indexes ≡ graph.indexes
      → ((x : Name) → IsLive graph x → IsLive after x) → ((x : Name) → IsLive after x → is_drawn after x ≡ true) → HoldsLive schema after
  with_objects after pairs lists dictionaries indexes more drawn = record {
    drawn = drawn;
    first = λ pair there. more pair.first (was.first pair (sym (ap (λ s. sets.contains s pair) pairs) ∙ there));
    second = λ pair there two. more pair.second (was.second pair (sym (ap (λ s. sets.contains s pair) pairs) ∙ there) two);
    lists = λ at items there. let old = was.lists at items (sym (ap (λ m. maps.get m at) lists) ∙ there) in (old.0, more at.object old.1);
    dictionaries = λ at bindings there. let old = was.dictionaries at bindings (sym (ap (λ m. maps.get m at) dictionaries) ∙ there) in (old.0, more at.object old.1);
    indexes = λ index there. more index.set.object (was.indexes index (sym (ap (λ s. sets.contains s index) indexes) ∙ there));
  }

  object_put : (x : Name) (object : Object) → IsLive graph x → HoldsLive schema (record graph { objects = maps.insert graph.objects x object })
  object_put x object live =
      with_objects (record graph { objects = maps.insert graph.objects x object }) refl refl refl refl
      (λ q there. still_there name_cmp-IsTotalOrder name_cmp-IsAntisymmetric graph.objects x object q there)
      (λ q there. new_or_old name_cmp-IsTotalOrder name_cmp-IsAntisymmetric (λ y. is_drawn graph y ≡ true) graph.objects x object q (was.drawn x live) (was.drawn q) there)

  -- an object that isn't live any more is in nothing that is left
  gone : (x : Name) → HoldsLive schema (without_object schema graph x)
  gone x =
      let live : (q : Name) → same_name q x ≡ false → IsLive graph q → IsLive (without_object schema graph x) q =
      λ q apart there. ap is_some (maps.get-remove name_cmp-IsTotalOrder graph.objects x q) ∙ ap (λ b. is_some (cond b None (maps.get graph.objects q))) apart ∙ there in
      record {
        drawn = λ q there. was.drawn q (in_removed name_cmp-IsTotalOrder name_cmp-IsAntisymmetric graph.objects x q there);
        first = λ pair there.
            let kept = in_retained pair_cmp-IsTotalOrder pair_cmp-IsAntisymmetric graph.pairs (λ p. not (goes_with schema x p)) pair there in
            let apart = either (same_name pair.first x) (is_two_sided schema pair.link && same_name pair.second x) kept.0 in
            live pair.first apart.0 (was.first pair kept.1);
        second = λ pair there two.
            let kept = in_retained pair_cmp-IsTotalOrder pair_cmp-IsAntisymmetric graph.pairs (λ p. not (goes_with schema x p)) pair there in
            let apart = either (same_name pair.first x) (is_two_sided schema pair.link && same_name pair.second x) kept.0 in
            live pair.second (both_true (is_two_sided schema pair.link) (same_name pair.second x) apart.1 two) (was.second pair kept.1 two);
        lists = λ at items there.
            let kept = value_retained object_member_cmp-IsTotalOrder object_member_cmp-IsAntisymmetric graph.lists (λ k. not (same_name k.object x)) at items there in
            let old = was.lists at items kept.1 in
            (old.0, live at.object (not_false _ kept.0) old.1);
        dictionaries = λ at bindings there.
            let kept = value_retained object_member_cmp-IsTotalOrder object_member_cmp-IsAntisymmetric graph.dictionaries (λ k. not (same_name k.object x)) at bindings there in
            let old = was.dictionaries at bindings kept.1 in
            (old.0, live at.object (not_false _ kept.0) old.1);
        indexes = λ index there.
            let kept = in_retained index_cmp-IsTotalOrder index_cmp-IsAntisymmetric graph.indexes (λ i. not (same_name i.set.object x)) index there in
            live index.set.object (not_false _ kept.0) (was.indexes index kept.1);
      }

-- ---- command by command

not_empty : {X : Type 0} (xs : List X) → 1 ≤ length xs → xs ≢ []
not_empty xs some none = let zero_long : length xs ≡ 0 = ap length none in absurd (omega (arith, zero_long, some))

appended : {X : Type 0} (xs : List X) (x : X) → (xs ++ x ∷ []) ≢ []
appended [] x e = cc
appended (y ∷ xs) x e = cc

module _ (schema : Schema) (vars : Vars) (graph : Graph) (was : HoldsLive schema graph) where
  owner_lives : (x y : Name) → x ≡ y → IsLive graph x → IsLive graph y
  owner_lives x y same live = subst (IsLive graph) same live

  abbrev Live : Stepped → Type 0
  Live stepped = HoldsLive schema stepped.graph

  made : (to ty : List ℕ) (segment : ℕ) → HoldsLive schema (with_new graph segment (new_object schema (unwrap_or (type_named schema ty) no_type)))
  made to ty segment =
      let object = new_object schema (unwrap_or (type_named schema ty) no_type) in
      let after = with_new graph segment object in
      with_objects schema graph was after refl refl refl refl
      (λ q there. still_there name_cmp-IsTotalOrder name_cmp-IsAntisymmetric graph.objects (next_name graph segment) object q there)
      (λ q there. new_or_old name_cmp-IsTotalOrder name_cmp-IsAntisymmetric (λ y. is_drawn after y ≡ true) graph.objects (next_name graph segment) object q
      (names_new vars graph to segment object (next_name graph segment) refl).1
      (λ old. task_keeps schema vars graph q (New to ty segment) (was.drawn q old)) there)

  may : (command : Command) → list_any (is_dangling schema vars graph) (line_of schema vars graph command).reads ≡ false → TaskMay Live schema graph vars (line_of schema vars graph command).task
  may (New to ty segment) live = λ passed. made to ty segment
  may (Find to name) live = λ passed. was
  may (Root to root) live = λ passed. was
  may (SetRoot root (Some item)) live = λ passed. roots_changed schema graph was _
  may (SetRoot root None) live = λ passed. roots_changed schema graph was _
  may (Get object member) live = λ at own passed. was
  may (Set object member (operands.Int value)) live = λ at own passed. object_put schema graph was at.owner _ (owner_lives (bound_to vars object) at.owner own.owner (one_live (is_live graph (bound_to vars object)) live))
  may (Set object member (operands.Text value)) live = λ at own passed. object_put schema graph was at.owner _ (owner_lives (bound_to vars object) at.owner own.owner (one_live (is_live graph (bound_to vars object)) live))
  may (Set object member (operands.Var item)) live = λ at own passed.
      let both = two_live (is_live graph (bound_to vars object)) (is_live graph (bound_to vars item)) live in joined_keeps schema graph was at.at at.owner (bound_to vars item) (owner_lives (bound_to vars object) at.owner own.owner both.0) both.1
  may (Set object member operands.Null) live = λ at own passed. some_pairs schema graph was _
  may (Follow to object member) live = λ at own passed. was
  may (Delete object) live = λ passed. gone schema graph was (bound_to vars object)
  may (Insert object member item) live = λ at own passed.
      let both = two_live (is_live graph (bound_to vars object)) (is_live graph (bound_to vars item)) live in joined_keeps schema graph was at.at at.owner (bound_to vars item) (owner_lives (bound_to vars object) at.owner own.owner both.0) both.1
  may (Remove object member item) live = λ at own passed. less_pair schema graph was _
  may (Members object member) live = λ at own passed. was
  may (Size object member) live = λ at own passed. was
  may (Append object member item) live = λ at own passed.
      let both = two_live (is_live graph (bound_to vars object)) (is_live graph (bound_to vars item)) live in list_put schema graph was (own_member at) _ (appended (items_of graph at) (bound_to vars item)) (owner_lives (bound_to vars object) at.owner own.owner both.0)
  may (Put object member index item) live = λ at own passed.
      let both = two_live (is_live graph (bound_to vars object)) (is_live graph (bound_to vars item)) live in
      let within = leb-false (length (items_of graph at)) index (passes (nat_le (length (items_of graph at)) index) OutOfRange (split (out_of_range graph at index) [] (split (of_other_type graph at (bound_to vars item)) (out_of_range graph at index ∷ []) passed).1).0) in
      list_put schema graph was (own_member at) _
      (not_empty (slice_set (items_of graph at) index (bound_to vars item)) (omega (arith, within, length-set (items_of graph at) index (bound_to vars item)))) (owner_lives (bound_to vars object) at.owner own.owner both.0)
  may (At to object member index) live = λ at own passed. was
  may (Bind object member key item) live = λ at own passed.
      let both = two_live (is_live graph (bound_to vars object)) (is_live graph (bound_to vars item)) live in dictionary_put schema graph was (own_member at) _ (owner_lives (bound_to vars object) at.owner own.owner both.0)
  may (Look to object member key) live = λ at own passed. was
  may (Unbind object member key) live = λ at own passed. dictionary_put schema graph was (own_member at) _ (owner_lives (bound_to vars object) at.owner own.owner (one_live (is_live graph (bound_to vars object)) live))
  may (Index object member path) live = λ at own passed. index_put schema graph was _ (owner_lives (bound_to vars object) at.owner own.owner (one_live (is_live graph (bound_to vars object)) live))
  may (Unindex object member path) live = λ at own passed. index_removed schema graph was _
  may (Query object member path op key) live = λ at own passed. was

  kept : (update : Bool) (command : Command) → HoldsLive schema (step schema update vars graph command).graph
  kept update command = step_may Live schema vars graph (λ refusal. was) update command (may command)

pub law_of_live_graphs : LawOfLiveGraphs
law_of_live_graphs schema update vars vars_after graph graph_after command reply was gives =
    subst (HoldsLive schema) (ap (λ (s : Stepped). s.graph) gives) (kept schema vars graph was update command)

-- ---- the empty graph

nothing : {X : Type 0} (o : Option X) (x : X) → o ≡ None → o ≡ Some x → ⊥
nothing None x none some = cc
nothing (Some y) x none some = cc

nowhere : {X : Type 0} (o : Option X) → o ≡ None → is_some o ≡ true → ⊥
nowhere None none there = cc
nowhere (Some y) none there = cc

pub empty_holds_live : (schema : Schema) → HoldsLive schema empty_graph
empty_holds_live schema = record {
  drawn = λ x there. absurd (nowhere _ (maps.get-empty name_cmp x) there);
  first = λ pair there. absurd (nowhere _ (maps.get-empty pair_cmp pair) there);
  second = λ pair there two. absurd (nowhere _ (maps.get-empty pair_cmp pair) there);
  lists = λ at items there. absurd (nothing _ items (maps.get-empty object_member_cmp at) there);
  dictionaries = λ at bindings there. absurd (nothing _ bindings (maps.get-empty object_member_cmp at) there);
  indexes = λ index there. absurd (nowhere _ (maps.get-empty index_cmp index) there);
}
