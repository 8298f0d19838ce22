-- The declared indexes of valid pages are on sets with inverses, and their paths lead on.
use Rattle.std.proofs.Common.{◌≡◌, ◌≢◌, ℕ, true, List, [], ◌∷◌, length, map, refl, sym, ap, subst, ◌∙◌, arith, suc, Option, Some, None}
use Rattle.std.proofs.lemmas.List.{length-take}
use Rattle.std.proofs.lemmas.Option.{none-some}
use Rattle.ostore_base.specs.declared.page.PageImage.{PageImage}
use Rattle.ostore_schema_layout.specs.declared.schema.Schema.{Schema}
use Rattle.ostore_schema_layout.specs.declared.schema.MemberNo.{MemberNo}
use Rattle.ostore_schema_layout.specs.declared.schema.MemberKind.{MemberKind}
use Rattle.ostore_schema_layout.specs.declared.schema.MemberKind.TheVariants as kinds
use Rattle.ostore_schema_layout.specs.declared.schema.Inverse.{Inverse}
use Rattle.ostore_schema_layout.specs.Lawful.{link_target}
use Rattle.ostore_graph_model.specs.Sets as sets
use Rattle.ostore_graph_model.specs.Orders.{PathIndex}
use Rattle.ostore_graph_model.specs.Kinds.{is_scalar, is_set, target_of}
use Rattle.ostore_graph_model.specs.Graph.{Graph}
use Rattle.ostore_graph_model.specs.GraphRules.{LeadsOn, IsIndexOf}
use Rattle.ostore_graph_model.specs.LiveGraphs.{IsLive}
use Rattle.ostore_graph_model.specs.Chains.{item_type}
use Rattle.ostore_graph_model.specs.Chunks.{PathStep}
use Rattle.ostore_graph_model.specs.IndexRules.{IsKeyKind, IsRefTo, IsLawfulPath, used_steps, IsGoodIndex}
use Rattle.ostore_graph_model.specs.Records.{CollectionHead, Slot, slot_of, heap_of}
use Rattle.ostore_graph_model.specs.StandsFor.{HasIndex}
use Rattle.ostore_graph_model.specs.Valid.{HasGoodIndexes}
use Rattle.ostore_graph_model.specs.LawsOfMeaning.{HoldGraph}
use Rattle.ostore_graph_model.proofs.SideLaws.{two_sided}
use Rattle.ostore_graph_model.proofs.Meant.Rows.{object_lives}
use Rattle.ostore_graph_model.proofs.Meant.Values.{stands_in}
use Rattle.ostore_graph_model.proofs.Meant.Collections.{member_def}

-- ---- paths

key_kind : (kind : MemberKind) (number : ℕ) → IsKeyKind kind number → is_scalar kind ≡ true
key_kind kinds.Int number e = refl
key_kind (kinds.Text max) number e = refl
key_kind (kinds.Ref target) number e = absurd e
key_kind (kinds.Set target) number e = absurd e
key_kind (kinds.List target) number e = absurd e
key_kind (kinds.DictInt target) number e = absurd e
key_kind (kinds.DictText target) number e = absurd e

ref_to : (kind : MemberKind) (number : ℕ) → IsRefTo kind number → kind ≡ kinds.Ref (record { 0 = number })
ref_to kinds.Int number e = absurd e
ref_to (kinds.Text max) number e = absurd e
ref_to (kinds.Ref target) number e = λ i. kinds.Ref (record { 0 = e i })
ref_to (kinds.Set target) number e = absurd e
ref_to (kinds.List target) number e = absurd e
ref_to (kinds.DictInt target) number e = absurd e
ref_to (kinds.DictText target) number e = absurd e

abbrev member_of_step : PathStep → MemberNo
member_of_step step = record { 0 = step.member }

leads_on : (schema : Schema) (ty : ℕ) (steps : List PathStep) (kind : ℕ) → IsLawfulPath schema ty steps kind → LeadsOn schema (record { 0 = ty }) (map member_of_step steps)
leads_on schema ty [] kind lawful = absurd lawful
leads_on schema ty (last ∷ []) kind lawful = let is = lawful.1 in (is.0, is.1, key_kind is.0.kind kind is.2)
leads_on schema ty (step ∷ next ∷ steps) kind lawful =
    let is = lawful.1 in
    (is.0, record { 0 = is.1 }, is.2, ref_to is.0.kind is.1 is.3, is.4, leads_on schema is.1 (next ∷ steps) kind is.5)

long_map : {X Y : Type 0} (f : X → Y) (xs : List X) → length (map f xs) ≡ length xs
long_map f [] = refl
long_map f (x ∷ xs) = ap suc (long_map f xs)

-- ---- sets

-- of the sides of links only a set begins a collection
set_kind : (kind : MemberKind) → link_target kind ≢ None → (bytes : List ℕ) (at : ℕ) (head : CollectionHead) → slot_of bytes at kind ≡ Slot.Begins head → is_set kind ≡ true
set_kind kinds.Int some bytes at head is = absurd (some refl)
set_kind (kinds.Text max) some bytes at head is = absurd (some refl)
set_kind (kinds.Ref target) some bytes at head is = absurd cc
set_kind (kinds.Set target) some bytes at head is = refl
set_kind (kinds.List target) some bytes at head is = absurd (some refl)
set_kind (kinds.DictInt target) some bytes at head is = absurd (some refl)
set_kind (kinds.DictText target) some bytes at head is = absurd (some refl)

module _ (schema : Schema) (pages : List PageImage) (graph : Graph) (holds : HoldGraph schema pages graph) where
  pub index_lives : (index : PathIndex) → sets.contains graph.indexes index ≡ true → IsLive graph index.set.object
  index_lives index there =
      let h = (holds.stands.indexes index).0 there in
      object_lives schema pages graph holds h.address h.tag h.has.slots index.set.object h.has.object h.named

  module _ (indexes : HasGoodIndexes schema pages) where
    pub index_is : (index : PathIndex) → sets.contains graph.indexes index ≡ true → IsIndexOf schema graph index
    index_is index there =
        let steps = long_map member_of_step (used_steps h.descriptor) in
        let used = length-take h.descriptor.steps h.descriptor.path in
        let few = good.few in
        let path = ap length h.path in
        record {
          def = h.def;
          defined = member_def schema pages graph holds index.set h.address h.tag h.def (Slot.Begins h.head) h.has h.named;
          of_kind = by_inverse h.def.inverse refl;
          sided = good.sided;
          leads = subst (LeadsOn schema (target_of h.def.kind)) h.path (leads_on schema (item_type h.def.kind) (used_steps h.descriptor) h.descriptor.kind good.lawful);
          few = omega (arith, steps, used, few, path);
        }
      where
        h : HasIndex schema (heap_of schema pages) index
        h = (holds.stands.indexes index).0 there

        good : IsGoodIndex schema (heap_of schema pages) indexes.graph h.tag index.set.member.0 h.def h.descriptor
        good =
            let all = (indexes.kept h.address).good index.set.member.0 h.tag h.def h.chain (h.head, h.has, h.linked) in
            let at = h.there in
            subst (IsGoodIndex schema (heap_of schema pages) indexes.graph h.tag index.set.member.0 h.def) at.2 (all at.0 h.descriptor at.1)

        by_inverse : (found : Option Inverse) → h.def.inverse ≡ found → is_set h.def.kind ≡ true
        by_inverse None e = absurd (good.sided e)
        by_inverse (Some inverse) e =
            let two = two_sided schema holds.pages_kept.spelled.lawful (record { 0 = h.tag.code }) index.set.member h.def inverse h.has.defined e in
            let stands = stands_in schema pages graph holds h.address index.set.member.0 h.tag h.def (Slot.Begins h.head) h.has in
            set_kind h.def.kind (λ none. none-some inverse.ty (sym none ∙ two.leads)) stands.cell.bytes stands.at h.head stands.is
