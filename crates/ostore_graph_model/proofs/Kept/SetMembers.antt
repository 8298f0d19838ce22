-- Sets: `insert`, `remove`.
use Rattle.std.proofs.Common.{◌≡◌, [], ◌∷◌, None}
use Rattle.ostore_schema_layout.specs.declared.schema.Schema.{Schema}
use Rattle.ostore_schema_layout.specs.Lawful.{IsLawful}
use Rattle.ostore_graph_model.specs.declared.values.Name.{Name}
use Rattle.ostore_graph_model.specs.declared.refusal.Refusal.TheVariants.{AlreadyMember}
use Rattle.ostore_graph_model.specs.Sets as sets
use Rattle.ostore_graph_model.specs.Orders.{Pair}
use Rattle.ostore_graph_model.specs.Kinds.{is_set}
use Rattle.ostore_graph_model.specs.Graph.{Graph}
use Rattle.ostore_graph_model.specs.Deeds.{Vars, LiveMember, refused_where, first_refusal, of_other_type}
use Rattle.ostore_graph_model.specs.Deeds.References.{with_joined}
use Rattle.ostore_graph_model.specs.Deeds.SetMembers.{is_in, insert_deed}
use Rattle.ostore_graph_model.specs.LiveGraphs.{IsLive}
use Rattle.ostore_graph_model.specs.GraphRules.{IsGraph}
use Rattle.ostore_graph_model.proofs.OrderLaws.{pair_cmp-IsTotalOrder, pair_cmp-IsAntisymmetric}
use Rattle.ostore_graph_model.proofs.PassedLaws.{split, Finds}
use Rattle.ostore_graph_model.proofs.LiveLaws.{in_removed}
use Rattle.ostore_graph_model.proofs.Kept.Parts.{KeepsTypes, with_pairs}
use Rattle.ostore_graph_model.proofs.Kept.References.{set_leads, joined_right}

module _ (schema : Schema) (graph : Graph) (was : IsGraph schema graph) where
  pub inserted : IsLawful schema → (vars : Vars) (x y : Name) (at : LiveMember) → Finds schema graph x is_set at → IsLive graph at.owner → IsLive graph y
      → first_refusal (insert_deed schema vars graph y at).tests ≡ None → KeepsTypes schema (with_joined schema graph at y)
  inserted lawful vars x y at finds owner item passed =
      joined_right schema graph was lawful is_set x y at finds (set_leads at.def.kind finds.of_kind) owner item
      (split (of_other_type graph at y) (refused_where (is_in schema graph at y) AlreadyMember ∷ []) passed).0

  pub taken_out : (pair : Pair) → KeepsTypes schema (record graph { pairs = sets.remove graph.pairs pair })
  taken_out pair =
      with_pairs schema graph was (sets.remove graph.pairs pair) (λ p there.
      was.pairs p (in_removed pair_cmp-IsTotalOrder pair_cmp-IsAntisymmetric graph.pairs pair p there))
