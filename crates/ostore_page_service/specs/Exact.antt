-- What each call of the sequential server does, exactly, to the words and images of all pages.
use Rattle.std.specs.Prelude.{◌≡◌, ◌≢◌, ℕ, ◌+◌, ◌≤◌, ◌==◌, if◌then◌else◌, false, Result, Ok, Err, ◌⊎◌, List, Some, slice_get, slice_set}
use Rattle.ostore_base.specs.declared.page.PageImage.{PageImage}
use Rattle.ostore_redo_journal.specs.Drafts.{Writes}
use Rattle.ostore_redo_journal.specs.Limits.{most_records}
use Rattle.ostore_page_service.specs.declared.word.Word.{Word}
use Rattle.ostore_page_service.specs.declared.answers.Busy.{Busy}
use Rattle.ostore_page_service.specs.declared.answers.Claim.{Claim}
use Rattle.ostore_page_service.specs.declared.answers.Claim.TheVariants as claim
use Rattle.ostore_page_service.specs.declared.answers.CommitFault.{CommitFault}
use Rattle.ostore_page_service.specs.declared.answers.CommitFault.TheVariants as fault
use Rattle.ostore_page_service.specs.declared.answers.Released.{Released}
use Rattle.ostore_page_service.specs.declared.answers.Released.TheVariants as released
use Rattle.ostore_page_service.specs.Words.{use_of, keep_of, owner, fetcher, wanted, with, ChangesTo, Hits, Misses, EndsFetch, Owns, GivesUp, Wants, ReadConflict, OwnConflict, MayHit, MayMiss, MayOwn}
use Rattle.ostore_page_service.specs.History.{put_all}

-- how a claim to read changes the page's word
abbrev pub AnswersRead : Claim → ℕ → ℕ → ℕ → Type 0
AnswersRead claim.Kept w new c = MayHit w c × Hits w new c
AnswersRead claim.Fetched w new c = MayMiss w c × ((mid : ℕ) × Misses w mid c × EndsFetch mid new c)

-- a release by the owner ends the ownership too
abbrev pub owner_without : ℕ → ℕ → ℕ
owner_without c o = if o == c + 1 then 0 else o

-- how a release changes the page's word: a page that was wanted is given up
abbrev pub AnswersRelease : Released → ℕ → ℕ → ℕ → Type 0
AnswersRelease released.Kept w new c = (wanted w ≡ 0) × ChangesTo w new (with c 0 (use_of w)) (keep_of w) (owner_without c (owner w)) (fetcher w) 0
AnswersRelease released.GivenUp w new c = (wanted w ≡ 1) × ChangesTo w new (with c 0 (use_of w)) (with c 0 (keep_of w)) (owner_without c (owner w)) (fetcher w) 0

-- the words of all pages, and their images in the last list
pub record PageState : Type 0 where
  pub words : List Word
  pub images : List PageImage

abbrev pub SameState : PageState → PageState → Type 0
SameState a b = (b.words ≡ a.words) × (b.images ≡ a.images)

-- the page's word was w and becomes another one by the step. No other word changes, and no image
abbrev pub Rewords : PageState → PageState → ℕ → (ℕ → ℕ → Type 0) → Type 0
Rewords a b p Step = (w new : Word) × (slice_get a.words p ≡ Some w) × (b.words ≡ slice_set a.words p new) × (b.images ≡ a.images) × Step w.0 new.0

-- a Busy shows the word as it was, which is wanted from then on
abbrev pub Shows : Busy → ℕ → ℕ → Type 0
Shows b w new = (b.seen ≡ w) × (b.found ≡ w) × Wants w new

module _ (a b : PageState) where
  module _ (p c : ℕ) where
    -- a claim to read is refused exactly where the word is in conflict
    abbrev pub ReadsExactly : Result Claim Busy → Type 0
    ReadsExactly (Ok claim) = Rewords a b p (λ w new. AnswersRead claim w new c)
    ReadsExactly (Err busy) = Rewords a b p (λ w new. ReadConflict w c × Shows busy w new)

    -- and so is a claim to own. An owner's claim changes nothing
    abbrev pub OwnsExactly : Result (Unit {0}) Busy → Type 0
    OwnsExactly (Ok done) = ((w : Word) × (slice_get a.words p ≡ Some w) × (owner w.0 ≡ c + 1) × SameState a b) ⊎ Rewords a b p (λ w new. MayOwn w c × Owns w new c)
    OwnsExactly (Err busy) = Rewords a b p (λ w new. (owner w ≢ c + 1) × OwnConflict w c × Shows busy w new)

    abbrev pub ReleasesExactly : Released → Type 0
    ReleasesExactly answer = Rewords a b p (λ w new. AnswersRelease answer w new c)

    abbrev pub DropsExactly : Type 0
    DropsExactly = Rewords a b p (λ w new. GivesUp w new c false)

  -- a commit puts its writes in place. It is refused only where the journal counts no more
  abbrev pub CommitsExactly : Writes → ℕ → Result ℕ CommitFault → Type 0
  CommitsExactly writes number (Ok n) = (b.words ≡ a.words) × (b.images ≡ put_all a.images writes)
  CommitsExactly writes number (Err f) = SameState a b × (f ≡ fault.OutOfMemory) × (most_records ≤ number)
