-- The last image of each page.
use Rattle.std.proofs.Common.{◌≡◌, ℕ, suc, ◌<◌, List, [], ◌∷◌, ◌++◌, length, slice_get, Option, Some, None, refl, sym, ◌∙◌, ap, arith}
use Rattle.ostore_base.specs.declared.page.PageImage.{PageImage}
use Rattle.ostore_redo_journal.specs.Records.{Logged}
use Rattle.ostore_redo_journal.specs.Last.{IsLast, newest, image_of, or_else}

or_else-assoc : (a b c : Option PageImage) → or_else (or_else a b) c ≡ or_else a (or_else b c)
or_else-assoc (Some x) b c = refl
or_else-assoc None b c = refl

or_else-none : (a : Option PageImage) → or_else a None ≡ a
or_else-none (Some x) = refl
or_else-none None = refl

-- one record more
pub newest_push : (page : ℕ) (rs : List Logged) (r : Logged) → newest page (rs ++ r ∷ []) ≡ or_else (image_of page r.pages) (newest page rs)
newest_push page [] r = sym (or_else-none (image_of page r.pages))
newest_push page (x ∷ rs) r =
    ap (λ (o : Option PageImage). or_else o (image_of page x.pages)) (newest_push page rs r)
    ∙ or_else-assoc (image_of page r.pages) (newest page rs) (image_of page x.pages)

-- the value, or another
abbrev value_or : PageImage → Option PageImage → PageImage
value_or other None = other
value_or other (Some x) = x

same_items : (xs ys : List PageImage) → length xs ≡ length ys → ((k : ℕ) → k < length xs → slice_get xs k ≡ slice_get ys k) → xs ≡ ys
same_items [] [] long same = refl
same_items [] (y ∷ ys) long same = absurd (omega (arith, long))
same_items (x ∷ xs) [] long same = absurd (omega (arith, long))
same_items (x ∷ xs) (y ∷ ys) long same =
    let head : x ≡ y = ap (value_or x) (same 0 (omega arith)) in
    let tail : xs ≡ ys = same_items xs ys (omega (arith, long)) (λ k below. same (suc k) (omega (arith, below))) in
    λ i. head i ∷ tail i

-- there is one last list at most
pub last_unique : (first a b : List PageImage) (rs : List Logged) → IsLast first rs a → IsLast first rs b → a ≡ b
last_unique first a b rs left right =
    same_items a b (left.same_pages ∙ sym right.same_pages) (λ k below.
    let inside : k < length first = omega (arith, below, left.same_pages) in
    left.each k inside ∙ sym (right.each k inside))
