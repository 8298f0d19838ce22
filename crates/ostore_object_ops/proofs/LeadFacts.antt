-- Where variables lead to, as resident pointers get homes and pages change.
use Rattle.std.proofs.Common.{◌≡◌, ℕ, List, refl, sym, ap, subst, ◌∙◌, Option, Some, None}
use Rattle.std.specs.Option.{option_map}
use Rattle.std.specs.FinMap as maps
use Rattle.std.proofs.lemmas.Option.{same_Some, none-some}
use Rattle.ostore_base.specs.declared.page.PageImage.{PageImage}
use Rattle.ostore_page_tags.specs.Rules.{is_type_code}
use Rattle.ostore_schema_layout.specs.declared.schema.Schema.{Schema}
use Rattle.ostore_segments.specs.Holdings.{KeepsHomes}
use Rattle.ostore_graph_model.specs.declared.values.Name.{Name}
use Rattle.ostore_graph_model.specs.Graph.{Graph}
use Rattle.ostore_graph_model.specs.Deeds.{Vars}
use Rattle.ostore_graph_model.specs.Addresses.{PlacedCell, cell_at}
use Rattle.ostore_graph_model.specs.PageEdits.{name_of}
use Rattle.ostore_object_ops.specs.Means.{Leads, LeadsToName, Means}

-- variables that led somewhere lead there, and the others to nothing
pub record KeepsLeads (before after : Leads) : Type 0 where
  pub to : (variable : List ℕ) (address : ℕ) → before variable ≡ Some (Some address) → after variable ≡ Some (Some address)
  pub none : (variable : List ℕ) → before variable ≡ None → after variable ≡ None

pub leads_kept : (old new : ℕ → Option ℕ) (bound : List ℕ → Option ℕ) → KeepsHomes old new → KeepsLeads (λ variable. option_map old (bound variable)) (λ variable. option_map new (bound variable))
leads_kept old new bound homes = record { to = λ variable. by (bound variable); none = λ variable. nothing (bound variable) }
  where
    by : (o : Option ℕ) (address : ℕ) → option_map old o ≡ Some (Some address) → option_map new o ≡ Some (Some address)
    by None address at = absurd (none-some (Some address) at)
    by (Some pointer) address at = ap (λ (h : Option ℕ). Some h) (homes pointer address (same_Some (old pointer) (Some address) at))

    nothing : (o : Option ℕ) → option_map old o ≡ None → option_map new o ≡ None
    nothing None at = refl
    nothing (Some pointer) at = absurd (none-some (old pointer) (sym at))

-- the rows that variables lead to keep their names
abbrev pub KeepsRows : List PageImage → List PageImage → Type 0
KeepsRows old new = (address : ℕ) (cell : PlacedCell) → cell_at old address ≡ Some cell → (now : PlacedCell) × (cell_at new address ≡ Some now) × (now.code ≡ cell.code) × (name_of now ≡ name_of cell)

pub name_kept : (old new : List PageImage) (before after : Leads) (variable : List ℕ) (name : Option Name) → KeepsLeads before after → KeepsRows old new → LeadsToName old (before variable) name → LeadsToName new (after variable) name
name_kept old new before after variable name keeps rows = by (before variable) refl
  where
    by : (o : Option (Option ℕ)) → before variable ≡ o → LeadsToName old o name → LeadsToName new (after variable) name
    by None is leads = subst (λ to. LeadsToName new to name) (sym (keeps.none variable is)) leads
    by (Some None) is leads = absurd leads
    by (Some (Some address)) is leads =
        let now = rows address leads.cell leads.there in
        subst (λ to. LeadsToName new to name) (sym (keeps.to variable address is)) (record {
          cell = now.0;
          there = now.1;
          typed = ap is_type_code now.2 ∙ leads.typed;
          named = leads.named ∙ ap (λ (n : Name). Some n) (sym now.3);
        })

pub rows_stay : (list : List PageImage) → KeepsRows list list
rows_stay list address cell there = (cell, there, refl, refl)

-- the same pages, with more homes
pub means_kept : (schema : Schema) (list : List PageImage) (before after : Leads) (vars : Vars) (graph : Graph) → KeepsLeads before after → Means schema list before vars graph → Means schema list after vars graph
means_kept schema list before after vars graph keeps means = record {
  valid = means.valid;
  stands = means.stands;
  bound = λ variable. name_kept list list before after variable (maps.get vars variable) keeps (rows_stay list) (means.bound variable);
}
