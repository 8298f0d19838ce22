-- What a command on a member works on, by the row that its variable leads to.
use Rattle.std.proofs.Common.{◌≡◌, ℕ, ◌+◌, ◌*◌, ◌≤◌, ◌<◌, true, false, length, List, refl, sym, ap, subst, ◌∙◌, arith, Option, Some, None, inl, inr}
use Rattle.std.specs.Prelude.{IsSome}
use Rattle.std.specs.List.{slice_get}
use Rattle.std.specs.FinMap as maps
use Rattle.std.proofs.lemmas.Option.{same_Some}
use Rattle.ostore_base.specs.declared.page.PageImage.{PageImage}
use Rattle.ostore_page_tags.specs.Rules.{is_type_code, IsPage}
use Rattle.ostore_page_tags.specs.Rows.{row_in, row_at}
use Rattle.ostore_page_tags.specs.declared.tag_rows.Row.{Row}
use Rattle.ostore_page_tags.specs.Cells.{Cell}
use Rattle.ostore_page_tags.specs.PageLists.{bytes_at, header_at}
use Rattle.ostore_schema_layout.specs.declared.schema.Schema.{Schema}
use Rattle.ostore_schema_layout.specs.declared.schema.MemberDef.{MemberDef}
use Rattle.ostore_schema_layout.specs.Cells.{HasCode, places_from, pointers_of}
use Rattle.ostore_schema_layout.specs.Numbers.{members_of, member_named}
use Rattle.ostore_segments.specs.Seen.{IsSeenAs}
use Rattle.ostore_graph_model.specs.declared.refusal.Refusal.TheVariants.{NoVariable, NoMember, Dangling}
use Rattle.ostore_graph_model.specs.Graph.{Graph}
use Rattle.ostore_graph_model.specs.Deeds.{Vars}
use Rattle.ostore_graph_model.specs.Addresses.{PlacedCell, cell_at}
use Rattle.ostore_graph_model.specs.PageEdits.{name_of}
use Rattle.ostore_graph_model.proofs.MemberEdits.{place_kind, cell_sized}
use Rattle.ostore_graph_model.proofs.RecordLaws.{type_code_most}
use Rattle.ostore_object_ops.specs.declared.lookup.Found.{Found}
use Rattle.ostore_object_ops.specs.Means.{Leads, LeadsToRow, LeadsToName, Means, HasMeaning}
use Rattle.ostore_object_ops.specs.inside.Members.{address_of, object_in, IsMember, RefusesMember}
use Rattle.ostore_object_ops.proofs.CellPlaces.{IsCellOn, cell_on}
use Rattle.ostore_object_ops.proofs.GoodCells.{good_cells, sized_parts}
use Rattle.ostore_object_ops.proofs.SeenCells.{seen_page, seen_row}
use Rattle.ostore_object_ops.proofs.ObjectFacts.{live_object, dead_object}
use Rattle.ostore_object_ops.proofs.OnMember.{unbound_gives, dangling_gives, memberless_gives, member_gives_deed}

module _ (schema : Schema) (leads : Leads) (variable member : List ℕ) (list : List PageImage) where
  -- the variable isn't bound
  pub refuses_unbound : leads variable ≡ None → RefusesMember schema leads variable member NoVariable list
  refuses_unbound none vars graph means kind deed writes update may =
      let unbound : maps.get vars variable ≡ None = subst (λ to. LeadsToName list to (maps.get vars variable)) none (means.bound variable) in
      unbound_gives schema vars graph variable member kind deed writes update may unbound

  -- a bound variable leads to a page
  pub leads_somewhere : leads variable ≡ Some None → HasMeaning schema leads list → ⊥
  leads_somewhere nowhere has = subst (λ to. LeadsToName list to (maps.get has.vars variable)) nowhere (has.means.bound variable)

  pub leads_to : (address : ℕ) → leads variable ≡ Some (Some address) → (vars : Vars) (graph : Graph) → Means schema list leads vars graph → LeadsToRow list address (maps.get vars variable)
  leads_to address at vars graph means = subst (λ to. LeadsToName list to (maps.get vars variable)) at (means.bound variable)

  -- the row that a bound variable leads to, as it is read off its page
  pub record IsRowRead (page offset : ℕ) (row : Row) : Type 0 where
    pub low : offset < 4096
    pub cell : PlacedCell
    pub there : cell_at list (page * 4096 + offset) ≡ Some cell
    pub typed : is_type_code cell.code ≡ true
    pub code : row.code ≡ cell.code
    pub live : row.live ≡ cell.live
    pub sound : (1 ≤ row.code) × (row.code ≤ length schema.types)

  module _ (page offset : ℕ) (row : Row) (at : leads variable ≡ Some (Some (page * 4096 + offset))) (is : IsRowRead page offset row) where
    named : (vars : Vars) (graph : Graph) → Means schema list leads vars graph → maps.get vars variable ≡ Some (name_of is.cell)
    named vars graph means =
        let it = leads_to (page * 4096 + offset) at vars graph means in
        it.named ∙ ap (λ (c : PlacedCell). Some (name_of c)) (same_Some it.cell is.cell (sym it.there ∙ is.there))

    pub refuses_dead : row.live ≡ false → RefusesMember schema leads variable member Dangling list
    refuses_dead dead vars graph means kind deed writes update may =
        dangling_gives schema vars graph variable member kind deed writes update (name_of is.cell) may (named vars graph means)
        (dead_object schema list (page * 4096 + offset) is.cell means.valid graph means.stands is.there is.typed (sym is.live ∙ dead))

    module _ (live : row.live ≡ true) where
      has_object : (vars : Vars) (graph : Graph) → Means schema list leads vars graph → maps.get graph.objects (name_of is.cell) ≡ Some (object_in schema is.cell)
      has_object vars graph means = live_object schema list (page * 4096 + offset) is.cell means.valid graph means.stands is.there is.typed (sym is.live ∙ live)

      pub refuses_missing : member_named schema (record { 0 = row.code }) member ≡ None → RefusesMember schema leads variable member NoMember list
      refuses_missing none vars graph means kind deed writes update may =
          memberless_gives schema vars graph variable member kind deed writes update (name_of is.cell) (object_in schema is.cell) may (named vars graph means) (has_object vars graph means)
          (ap (λ (code : ℕ). member_named schema (record { 0 = code }) member) (sym is.code) ∙ none)

      pub finds_member : (found : Found) (def : MemberDef) → found.page.0 ≡ page → found.offset ≡ offset → member_named schema (record { 0 = row.code }) member ≡ Some found.number
          → slice_get (places_from 0 (members_of schema row.code)) found.number.0 ≡ Some found.place → slice_get (members_of schema row.code) found.number.0 ≡ Some def → IsMember schema leads variable member found list
      finds_member found def on_page at_offset named_so lies there =
          let address : page * 4096 + offset ≡ address_of found = omega arith in
          let code = is.code in
          let lies_there : slice_get (places_from 0 (members_of schema is.cell.code)) found.number.0 ≡ Some found.place = ap (λ (c : ℕ). slice_get (places_from 0 (members_of schema c)) found.number.0) (sym code) ∙ lies in
          let defined : slice_get (members_of schema is.cell.code) found.number.0 ≡ Some def = ap (λ (c : ℕ). slice_get (members_of schema c) found.number.0) (sym code) ∙ there in
          let low = is.low in
          record {
            low = omega arith;
            cell = is.cell;
            has = record {
              there = ap (cell_at list) (sym address) ∙ is.there;
              live = sym is.live ∙ live;
              typed = is.typed;
              lies = lies_there;
            };
            def = def;
            defined = defined;
            kind = place_kind 0 (members_of schema is.cell.code) found.number.0 found.place def lies_there defined;
            object = has_object;
            gives = λ vars graph means kind deed writes update may.
                member_gives_deed schema vars graph variable member kind deed writes update (name_of is.cell) (object_in schema is.cell) found.number def may (named vars graph means) (has_object vars graph means)
                (ap (λ (c : ℕ). member_named schema (record { 0 = c }) member) (sym code) ∙ named_so) defined;
          }

-- ---- the row, read off an image of its page

pub some_home : (home : Option ℕ) → (home ≡ None → ⊥) → IsSome home
some_home None never = absurd (never refl)
some_home (Some stored) never = refl

module _ (schema : Schema) (leads : Leads) (variable member : List ℕ) (list : List PageImage) (page offset : ℕ) (low : offset < 4096) (known : HasMeaning schema leads list) (at : leads variable ≡ Some (Some (page * 4096 + offset))) where
  row_here : LeadsToRow list (page * 4096 + offset) (maps.get known.vars variable)
  row_here = leads_to schema leads variable member list (page * 4096 + offset) at known.vars known.graph known.means

  on : IsCellOn list page offset row_here.cell
  on = cell_on list page offset row_here.cell known.means.valid.pages_kept.allocated low row_here.there

  pub page_there : page < length list
  page_there = on.high

  -- what is read of the image
  pub record SeesRow (image : List ℕ) : Type 0 where
    pub good : IsPage image
    pub row : Row
    pub row_is : row_at image offset ≡ Some row
    pub read : IsRowRead schema leads variable member list page offset row

  row_read : IsRowRead schema leads variable member list page offset (row_in (bytes_at list page) on.i)
  row_read =
      let row_is : row_in (bytes_at list page) on.i ≡ on.held.row = ap (λ (c : Cell). c.row) on.held_is in
      let code : (row_in (bytes_at list page) on.i).code ≡ row_here.cell.code = ap (λ (r : Row). r.code) row_is ∙ ap (λ (c : PlacedCell). c.code) on.cell_is in
      let sized = sized_parts schema row_here.cell.code row_here.cell.bytes (cell_sized schema list (page * 4096 + offset) row_here.cell known.means.valid.cells_kept row_here.there) in
      let most = type_code_most row_here.cell.code row_here.typed in
      let few = type_of_code schema row_here.cell.code sized.0 most in
      record {
        low = low;
        cell = row_here.cell;
        there = row_here.there;
        typed = row_here.typed;
        code = code;
        live = ap (λ (r : Row). r.live) row_is ∙ ap (λ (c : PlacedCell). c.live) on.cell_is;
        sound = subst (λ (c : ℕ). (1 ≤ c) × (c ≤ length schema.types)) (sym code) few;
      }
    where
      type_of_code : (schema : Schema) (code : ℕ) → HasCode schema code → (1 ≤ code) × (code ≤ 64) → (1 ≤ code) × (code ≤ length schema.types)
      type_of_code schema code (inl ty) most = ty
      type_of_code schema code (inr chunk) most = absurd (let low = chunk.0 in let high = most.1 in omega arith)

  pub sees_row : (home : ℕ → Option ℕ) (image : List ℕ) → IsSeenAs (pointers_of schema) home page image (bytes_at list page) → SeesRow image
  unfolding header_at
  sees_row home image seen =
      let cells = good_cells schema list page known.means.valid.cells_kept known.means.valid.pages_kept.allocated on.low on.high on.kind in
      record {
        good = seen_page schema home page image (bytes_at list page) on.low on.kind cells seen;
        row = row_in (bytes_at list page) on.i;
        row_is = seen_row schema home page image (bytes_at list page) on.low on.kind cells seen offset ∙ on.row_is;
        read = row_read;
      }
