-- What a graph of a schema keeps where some of its parts change.
use Rattle.std.proofs.Common.{◌≡◌, ℕ, ◌≤◌, true, List, [], ◌∷◌, ◌++◌, Option, Some, None, refl, sym, ap, ◌∙◌, true≢false}
use Rattle.std.specs.Prelude.{is_some, unwrap_or, slice_set, zero, suc}
use Rattle.std.specs.List.{AllByRecursion}
use Rattle.std.specs.FinMap as maps
use Rattle.std.proofs.lemmas.Option.{none-some}
use Rattle.ostore_base.specs.Limits.{most_roots}
use Rattle.ostore_schema_layout.specs.declared.schema.Schema.{Schema}
use Rattle.ostore_schema_layout.specs.declared.schema.TypeNo.{TypeNo}
use Rattle.ostore_schema_layout.specs.declared.schema.MemberDef.{MemberDef}
use Rattle.ostore_graph_model.specs.declared.values.Name.{Name}
use Rattle.ostore_graph_model.specs.Sets as sets
use Rattle.ostore_graph_model.specs.Orders.{Pair, pair_cmp, ObjectMember, object_member_cmp, PathIndex, index_cmp, text_cmp}
use Rattle.ostore_graph_model.specs.Graph.{Graph, Object, Dictionary, is_drawn}
use Rattle.ostore_graph_model.specs.Links.{def_of}
use Rattle.ostore_graph_model.specs.Deeds.{no_object, object_of}
use Rattle.ostore_graph_model.specs.LiveGraphs.{IsLive, HoldsLive}
use Rattle.ostore_graph_model.specs.GraphRules.{IsObjectOf, IsNameOf, IsPairOf, member_in, IsListOf, IsDictionaryOf, IsRootOf, IsLastSerial, IsIndexOf, IsGraph}

-- ---- items of lists

pub all_map : {X : Type 0} (P Q : X → Type 0) → ((x : X) → P x → Q x) → (xs : List X) → AllByRecursion P xs → AllByRecursion Q xs
all_map P Q step [] all = tt
all_map P Q step (x ∷ xs) all = (step x all.0, all_map P Q step xs all.1)

pub all_append : {X : Type 0} (P : X → Type 0) (xs : List X) (y : X) → AllByRecursion P xs → P y → AllByRecursion P (xs ++ y ∷ [])
all_append P [] y all last = (last, tt)
all_append P (x ∷ xs) y all last = (all.0, all_append P xs y all.1 last)

pub all_set : {X : Type 0} (P : X → Type 0) (xs : List X) (i : ℕ) (y : X) → AllByRecursion P xs → P y → AllByRecursion P (slice_set xs i y)
all_set P [] i y all new = tt
all_set P (x ∷ xs) zero y all new = (new, all.1)
all_set P (x ∷ xs) (suc i) y all new = (all.0, all_set P xs i y all.1 new)

-- ---- objects

-- a live name has its object
pub object_there : (graph : Graph) (x : Name) → IsLive graph x → maps.get graph.objects x ≡ Some (object_of graph x)
object_there graph x live = by (maps.get graph.objects x) refl
  where
    by : (found : Option Object) → maps.get graph.objects x ≡ found → maps.get graph.objects x ≡ Some (object_of graph x)
    by None e = absurd (true≢false (sym live ∙ ap is_some e))
    by (Some object) e = e ∙ ap (λ (o : Option Object). Some (unwrap_or o no_object)) (sym e)

-- what has a member is live
pub lives : (schema : Schema) (graph : Graph) (at : ObjectMember) (def : MemberDef) → def_of schema (member_in graph at) ≡ Some def → IsLive graph at.object
lives schema graph at def defined = by (maps.get graph.objects at.object) refl
  where
    by : (found : Option Object) → maps.get graph.objects at.object ≡ found → IsLive graph at.object
    by None e = absurd (none-some def (sym (ap (λ (o : Option Object). def_of schema (record { ty = (unwrap_or o no_object).ty; member = at.member })) e) ∙ defined))
    by (Some object) e = ap is_some e

-- a live object is named as one of its own type
pub own_name : (schema : Schema) (graph : Graph) → HoldsLive schema graph → (ty : TypeNo) (x : Name) → IsLive graph x → ty ≡ (object_of graph x).ty → IsNameOf graph ty x
own_name schema graph was ty x live is = record {
  drawn = was.drawn x live;
  typed = λ object e. ap (λ (o : Option Object). (unwrap_or o no_object).ty) (sym e) ∙ sym is;
}

-- ---- a later graph

-- names stay drawn; and what is live under a name that was drawn was so before, and was of the same type
pub record Follows (graph after : Graph) : Type 0 where
  pub drawn : (x : Name) → is_drawn graph x ≡ true → is_drawn after x ≡ true
  pub typed : (x : Name) (object : Object) → is_drawn graph x ≡ true → maps.get after.objects x ≡ Some object
      → (was : Object) × (maps.get graph.objects x ≡ Some was) × (was.ty ≡ object.ty)

module _ (schema : Schema) (graph after : Graph) (follows : Follows graph after) where
  same_type : (x : Name) → is_drawn graph x ≡ true → IsLive after x → (object_of after x).ty ≡ (object_of graph x).ty
  same_type x drawn live =
      let there = object_there after x live in
      let old = follows.typed x (object_of after x) drawn there in
      sym old.2 ∙ ap (λ (o : Option Object). (unwrap_or o no_object).ty) (sym old.1)

  later_name : (ty : TypeNo) (x : Name) → IsNameOf graph ty x → IsNameOf after ty x
  later_name ty x name = record {
    drawn = follows.drawn x name.drawn;
    typed = λ object e. let old = follows.typed x object name.drawn e in sym old.2 ∙ name.typed old.0 old.1;
  }

  later_pair : (pair : Pair) → IsPairOf schema graph pair → IsPairOf schema after pair
  later_pair pair was = record { link = was.link; first = later_name _ pair.first was.first; second = later_name _ pair.second was.second }

  module _ (was : HoldsLive schema graph) where
    later_member : (at : ObjectMember) (def : MemberDef) → IsLive after at.object → def_of schema (member_in graph at) ≡ Some def → def_of schema (member_in after at) ≡ Some def
    later_member at def live defined =
        ap (λ (ty : TypeNo). def_of schema (record { ty = ty; member = at.member })) (same_type at.object (was.drawn at.object (lives schema graph at def defined)) live) ∙ defined

    later_list : (at : ObjectMember) (items : List Name) → IsLive after at.object → IsListOf schema graph at items → IsListOf schema after at items
    later_list at items live list = record {
      def = list.def;
      defined = later_member at list.def live list.defined;
      of_kind = list.of_kind;
      typed = all_map _ _ (later_name _) items list.typed;
    }

    later_dictionary : (at : ObjectMember) (bindings : Dictionary) → IsLive after at.object → IsDictionaryOf schema graph at bindings → IsDictionaryOf schema after at bindings
    later_dictionary at bindings live dictionary = record {
      def = dictionary.def;
      defined = later_member at dictionary.def live dictionary.defined;
      of_kind = dictionary.of_kind;
      typed = λ key x e. let old = dictionary.typed key x e in (old.0, old.1, later_name _ x old.2);
    }

    later_index : (index : PathIndex) → IsLive after index.set.object → IsIndexOf schema graph index → IsIndexOf schema after index
    later_index index live old = record {
      def = old.def;
      defined = later_member index.set old.def live old.defined;
      of_kind = old.of_kind;
      sided = old.sided;
      leads = old.leads;
      few = old.few;
    }

-- ---- the parts of a graph

-- all that a graph of a schema has, beyond that it holds what is live, and one partner at a reference
pub record HasTypes (schema : Schema) (graph : Graph) : Type 0 where
  pub objects : (x : Name) (object : Object) → maps.get graph.objects x ≡ Some object → IsObjectOf schema object
  pub pairs : (pair : Pair) → sets.contains graph.pairs pair ≡ true → IsPairOf schema graph pair
  pub lists : (at : ObjectMember) (items : List Name) → maps.get graph.lists at ≡ Some items → IsListOf schema graph at items
  pub dictionaries : (at : ObjectMember) (bindings : Dictionary) → maps.get graph.dictionaries at ≡ Some bindings → IsDictionaryOf schema graph at bindings
  pub roots : (root : List ℕ) (x : Name) → maps.get graph.roots root ≡ Some x → IsRootOf graph root x
  pub few_roots : maps.len graph.roots ≤ most_roots
  pub serials : (segment serial : ℕ) → maps.get graph.serials segment ≡ Some serial → IsLastSerial segment serial
  pub indexes : (index : PathIndex) → sets.contains graph.indexes index ≡ true → IsIndexOf schema graph index

-- what a command leaves has its types, where it holds what is live
abbrev pub KeepsTypes : Schema → Graph → Type 0
KeepsTypes schema after = HoldsLive schema after → HasTypes schema after

module _ (schema : Schema) (graph : Graph) (was : IsGraph schema graph) where
  pub unchanged : KeepsTypes schema graph
  unchanged live = record {
    objects = was.objects;
    pairs = was.pairs;
    lists = was.lists;
    dictionaries = was.dictionaries;
    roots = was.roots;
    few_roots = was.few_roots;
    serials = was.serials;
    indexes = was.indexes;
  }

  -- a later graph, of whose parts each holds what is right in the graph before
  pub changed : (after : Graph) → Follows graph after
      → ((x : Name) (object : Object) → maps.get after.objects x ≡ Some object → IsObjectOf schema object)
      → ((pair : Pair) → sets.contains after.pairs pair ≡ true → IsPairOf schema graph pair)
      → ((at : ObjectMember) (items : List Name) → maps.get after.lists at ≡ Some items → IsListOf schema graph at items)
      → ((at : ObjectMember) (bindings : Dictionary) → maps.get after.dictionaries at ≡ Some bindings → IsDictionaryOf schema graph at bindings)
      → ((root : List ℕ) (x : Name) → maps.get after.roots root ≡ Some x → IsRootOf graph root x)
      → maps.len after.roots ≤ most_roots
      → ((segment serial : ℕ) → maps.get after.serials segment ≡ Some serial → IsLastSerial segment serial)
      → ((index : PathIndex) → sets.contains after.indexes index ≡ true → IsIndexOf schema graph index)
      → KeepsTypes schema after
  changed after follows objects pairs lists dictionaries roots few_roots serials indexes live = record {
    objects = objects;
    pairs = λ pair e. later_pair schema graph after follows pair (pairs pair e);
    lists = λ at items e. later_list schema graph after follows was.live at items (live.lists at items e).1 (lists at items e);
    dictionaries = λ at bindings e. later_dictionary schema graph after follows was.live at bindings (live.dictionaries at bindings e).1 (dictionaries at bindings e);
    roots = λ root x e. let old = roots root x e in record { named = old.named; drawn = follows.drawn x old.drawn };
    few_roots = few_roots;
    serials = serials;
    indexes = λ index e. later_index schema graph after follows was.live index (live.indexes index e) (indexes index e);
  }

  pub with_pairs : (pairs : sets.FinSet pair_cmp) → ((pair : Pair) → sets.contains pairs pair ≡ true → IsPairOf schema graph pair)
      → KeepsTypes schema (record graph { pairs = pairs })
  with_pairs pairs right =
      changed (record graph { pairs = pairs }) (record { drawn = λ x d. d; typed = λ x object d e. (object, e, refl) })
      was.objects right was.lists was.dictionaries was.roots was.few_roots was.serials was.indexes

  pub with_lists : (lists : maps.FinMap object_member_cmp (List Name))
      → ((at : ObjectMember) (items : List Name) → maps.get lists at ≡ Some items → IsListOf schema graph at items)
      → KeepsTypes schema (record graph { lists = lists })
  with_lists lists right =
      changed (record graph { lists = lists }) (record { drawn = λ x d. d; typed = λ x object d e. (object, e, refl) })
      was.objects was.pairs right was.dictionaries was.roots was.few_roots was.serials was.indexes

  pub with_dictionaries : (dictionaries : maps.FinMap object_member_cmp Dictionary)
      → ((at : ObjectMember) (bindings : Dictionary) → maps.get dictionaries at ≡ Some bindings → IsDictionaryOf schema graph at bindings)
      → KeepsTypes schema (record graph { dictionaries = dictionaries })
  with_dictionaries dictionaries right =
      changed (record graph { dictionaries = dictionaries }) (record { drawn = λ x d. d; typed = λ x object d e. (object, e, refl) })
      was.objects was.pairs was.lists right was.roots was.few_roots was.serials was.indexes

  pub with_roots : (roots : maps.FinMap text_cmp Name) → ((root : List ℕ) (x : Name) → maps.get roots root ≡ Some x → IsRootOf graph root x)
      → maps.len roots ≤ most_roots → KeepsTypes schema (record graph { roots = roots })
  with_roots roots right few =
      changed (record graph { roots = roots }) (record { drawn = λ x d. d; typed = λ x object d e. (object, e, refl) })
      was.objects was.pairs was.lists was.dictionaries right few was.serials was.indexes

  pub with_indexes : (indexes : sets.FinSet index_cmp) → ((index : PathIndex) → sets.contains indexes index ≡ true → IsIndexOf schema graph index)
      → KeepsTypes schema (record graph { indexes = indexes })
  with_indexes indexes right =
      changed (record graph { indexes = indexes }) (record { drawn = λ x d. d; typed = λ x object d e. (object, e, refl) })
      was.objects was.pairs was.lists was.dictionaries was.roots was.few_roots was.serials right
