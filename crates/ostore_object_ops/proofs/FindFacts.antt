-- The row of a variable's object, read off the image of its page by a holder of pages.
use Rattle.std.proofs.Common.{◌≡◌, ℕ, zero, suc, ◌+◌, ◌*◌, ◌<◌, true≢false, List, [], ◌∷◌, refl, sym, subst, ◌∙◌, Option, Some, None}
use Rattle.std.specs.Prelude.{IsSome}
use Rattle.std.specs.List.{slice_get}
use Rattle.std.proofs.lemmas.Option.{same_Some, none-some}
use Rattle.ostore_base.specs.declared.page.PageImage.{PageImage}
use Rattle.ostore_page_tags.specs.declared.tag_rows.Row.{Row}
use Rattle.ostore_page_tags.specs.Rows.{row_at}
use Rattle.ostore_page_tags.specs.PageLists.{bytes_at}
use Rattle.ostore_schema_layout.specs.declared.schema.Schema.{Schema}
use Rattle.ostore_schema_layout.specs.declared.schema.MemberDef.{MemberDef}
use Rattle.ostore_schema_layout.specs.Cells.{kind_size, places_from, pointers_of}
use Rattle.ostore_segments.specs.Holdings.{PagesTold, PagesHeld, Stands}
use Rattle.ostore_segments.specs.Seen.{IsSeenAs, Shows}
use Rattle.ostore_object_ops.specs.Means.{Leads, HasMeaning}
use Rattle.ostore_object_ops.proofs.MemberFacts.{IsRowRead, SeesRow, sees_row, page_there}

module _ (schema : Schema) (leads : Leads) (variable member : List ℕ) (page offset : ℕ) (low : offset < 4096) (at : leads variable ≡ Some (Some (page * 4096 + offset)))
    (told : PagesTold) (holding : PagesHeld) (image : List ℕ) (pointers : told.pointers ≡ pointers_of schema) (shows : Shows told holding page image) where
  pub sees : (begun list : List PageImage) → holding.may_be begun list → (known : HasMeaning schema leads list) → SeesRow schema leads variable member list page offset low known at image
  sees begun list there known =
      sees_row schema leads variable member list page offset low known at holding.home image
      (subst (λ (p : ℕ → List ℕ). IsSeenAs p holding.home page image (bytes_at list page)) pointers (shows begun list there (page_there schema leads variable member list page offset low known at)))

  pub row_seen : (row : Row) → Some row ≡ row_at image offset → (begun list : List PageImage) → holding.may_be begun list → HasMeaning schema leads list → IsRowRead schema leads variable member list page offset row
  row_seen row found begun list there known =
      let seen = sees begun list there known in
      subst (IsRowRead schema leads variable member list page offset) (same_Some seen.row row (sym seen.row_is ∙ sym found)) seen.read

  pub row_found : None ≡ row_at image offset → (begun list : List PageImage) → holding.may_be begun list → HasMeaning schema leads list → ⊥
  row_found none begun list there known = let seen = sees begun list there known in none-some seen.row (none ∙ seen.row_is)

-- what is known stands of a holder that has looked
pub still : {a : PagesHeld} {P : List PageImage → Type 0} → Stands a P → (begun list : List PageImage) → a.may_be begun list → P list
still stands begun list there = stands.each begun list there

pub some_of : {X : Type 0} (o : Option X) → IsSome o → (x : X) × (o ≡ Some x)
some_of None some = absurd (true≢false (sym some))
some_of (Some x) some = (x, refl)

-- a member has a place
pub has_place : (at : ℕ) (members : List MemberDef) (n : ℕ) → IsSome (slice_get members n) → None ≡ slice_get (places_from at members) n → ⊥
has_place at [] n some none = absurd (true≢false (sym some))
has_place at (member ∷ members) zero some none = none-some _ none
has_place at (member ∷ members) (suc n) some none = has_place (at + kind_size member.kind) members n some none
