-- A sum that is written to its page.
use Rattle.std.proofs.Common.{◌≡◌, ℕ, ◌+◌, ◌%◌, ◌<◌, List, [], ◌∷◌, ◌++◌, length, slice_get, slice_set, slice_index, Some, sym, ◌∙◌, ap, subst}
use Rattle.std.proofs.lemmas.List.{length-set}
use Rattle.std.proofs.lemmas.Option.{slice_get_within}
use Rattle.ostore_base.specs.declared.numbers.PageNo.{PageNo}
use Rattle.ostore_base.specs.declared.page.PageImage.{PageImage}
use Rattle.ostore_redo_journal.specs.Drafts.{Writes}
use Rattle.ostore_page_service.specs.History.{put_all}
use Rattle.ostore_page_service.proofs.ServingLaws.{get_same, get_other}
use Rattle.ostore_service_callers.specs.Sums.{IsSum, number_in, number_at}
use Rattle.ostore_service_callers.specs.declared.sums.Addition.{Addition}

pub sum_next : (s : ℕ) (e : Addition) (xs : List PageImage) (before writes : Writes) (page : PageNo) (old new : PageImage) → before ≡ [] → writes ≡ before ++ (page, new) ∷ [] → e.page ≡ page.0 → slice_get xs page.0 ≡ Some old
    → slice_index new.bytes 0 ≡ (slice_index old.bytes 0 + e.amount) % 256 → length xs ≡ s → IsSum s e xs (put_all xs writes) × (length (put_all xs writes) ≡ s)
sum_next s e xs before writes page old new none is at stands sum long =
    let one : writes ≡ (page, new) ∷ [] = is ∙ ap (λ (l : Writes). l ++ (page, new) ∷ []) none in
    subst (λ (l : Writes). IsSum s e xs (put_all xs l) × (length (put_all xs l) ≡ s)) (sym one) (written, size)
  where
    now : List PageImage
    now = slice_set xs page.0 new

    size : length now ≡ s
    size = length-set xs page.0 new ∙ long

    low : page.0 < length xs
    low = slice_get_within xs page.0 old stands

    was : number_at xs e.page ≡ slice_index old.bytes 0
    was = ap (number_at xs) at ∙ ap number_in stands

    written : IsSum s e xs now
    written = record {
      long = size;
      sum = ap (number_at now) at ∙ ap number_in (get_same xs page.0 new low) ∙ sum ∙ ap (λ (k : ℕ). (k + e.amount) % 256) (sym was);
      others = λ q other. get_other xs page.0 q new (λ same. other (same ∙ sym at));
    }
