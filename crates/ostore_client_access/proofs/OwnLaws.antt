-- Which pages an attempt owns.
use Rattle.std.proofs.Common.{◌≡◌, ◌⊎◌, ℕ, true, nat_eq, List, Option, Some, inl, inr, refl, sym, ap, subst, ◌∙◌}
use Rattle.std.specs.Prelude.{IfSome}
use Rattle.std.specs.Map.{set_value}
use Rattle.std.proofs.lemmas.Bool.{cases_eq}
use Rattle.ostore_base.specs.declared.numbers.PageNo.{PageNo}
use Rattle.ostore_segments.specs.Holdings.{OwnsOnly}
use Rattle.ostore_page_service.specs.Told.{Told}
use Rattle.ostore_graph_model.specs.declared.commands.Script.{Script}
use Rattle.ostore_graph_model.specs.declared.history.Entry.{Entry}
use Rattle.ostore_client_cache.specs.declared.entries.CachedPage.{CachedPage}
use Rattle.ostore_client_cache.specs.declared.entries.Hold.TheVariants.{Owned}
use Rattle.ostore_client_cache.specs.Entries.{is_owned, held_as, with_bytes}
use Rattle.ostore_client_core.specs.Clients.{ClientView, entry_of, with_pages}
use Rattle.ostore_client_core.specs.Calls.{OwnsNoMore, OwnsPage}
use Rattle.ostore_client_core.proofs.EntryLaws.{some_of, set_other}
use Rattle.ostore_client_access.specs.Accesses.{access_held}
use Rattle.ostore_client_access.specs.inside.Puts.{OwnsOne, PutsInto}

-- another entry of that page makes the attempt own no other one
owns_set : (x y z : ClientView) (page : ℕ) (was now : CachedPage) → entry_of y page ≡ Some was → z ≡ with_pages (set_value (nat_eq page) y.pages now) y → OwnsOne x y page → OwnsOne x z page
owns_set x y z page was now there is one = record {
  owns = λ other owned. elim (cases_eq other page) as (λ _. (is_owned (entry_of x other) ≡ true) ⊎ (other ≡ page)) [
    | inl same ↦ inr same
    | inr apart ↦ one.owns other (sym (ap is_owned (ap (λ (v : ClientView). entry_of v other) is ∙ set_other page other now y.pages (some_of (entry_of y page) was there) apart)) ∙ owned)
  ];
}

pub owns_owned : (x y z : ClientView) (page : PageNo) (found : Option PageNo) → found ≡ Some page → OwnsNoMore x y → IfSome found (λ p. OwnsPage y z p.0) → OwnsOne x z page.0
owns_owned x y z page found is none owns =
    let o : OwnsPage y z page.0 = subst (λ (f : Option PageNo). IfSome f (λ p. OwnsPage y z p.0)) is owns in
    owns_set x y z page.0 o.entry (held_as Owned o.entry) o.there o.client (record { owns = λ other owned. inl (none other owned) })

owns_put : (a b : Script → Type 0) (t u : Told Entry) (x new : ClientView) (page at : ℕ) (bytes : List ℕ) → PutsInto a b t u x new page at bytes → OwnsOne x new page
owns_put a b t u x new page at bytes p = owns_set x p.owned new page p.entry (with_bytes p.entry at bytes) p.there p.client p.owns

pub puts_owns : (a b : Script → Type 0) (t u : Told Entry) (x y : ClientView) (page at : ℕ) (bytes : List ℕ) → PutsInto a b t u x y page at bytes → OwnsOnly (access_held a t x) (access_held b u y) (λ named. named ≡ page)
puts_owns a b t u x y page at bytes p = record { owns = (owns_put a b t u x y page at bytes p).owns }

pub enters_owns : (a b : Script → Type 0) (t u : Told Entry) (x y : ClientView) → OwnsNoMore x y → OwnsOnly (access_held a t x) (access_held b u y) (λ named. ⊥)
enters_owns a b t u x y none = record { owns = λ page owned. inl (none page owned) }
