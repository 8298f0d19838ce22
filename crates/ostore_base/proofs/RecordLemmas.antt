-- How the record of a disk's calls goes on.
use Rattle.std.proofs.Common.{◌≡◌, ◌⊎◌, inl, inr, ℕ, zero, suc, ◌+◌, ◌<◌, List, [], ◌∷◌, length, drop, slice_index_or, Result, Ok, Err, OnOk, OnErr, sym, ◌∙◌, ap, ⊎_elim, subst, arith}
use Rattle.std.proofs.lemmas.List.{drop_more}
use Rattle.ostore_base.specs.Disk.{IsTornRange}
use Rattle.ostore_base.specs.Images.{Follows, Keeps, Elapses}
use Rattle.ostore_base.specs.declared.memory.disk_call.DiskCall.{DiskCall}
use Rattle.ostore_base.specs.declared.memory.disk_call.DiskCall.TheVariants.{Written, Torn, Synced}
use Rattle.ostore_base.specs.MemoryDisk.{DiskState, content_after, IsImage, LeftSince, MayLeave, Passes, KeepsPast}
use Rattle.ostore_base.specs.inside.Recorded.{IsUnsure, RecordsSync, RecordsTorn, RecordsWrite}
use Rattle.ostore_base.specs.inside.DiskLaws.{content_is_image}
use Rattle.ostore_base.proofs.ImageLemmas.{torn_same}

abbrev Lasts : List ℕ → List DiskCall → List ℕ → List DiskCall → Type 0
Lasts first past first_now now = Elapses (length past) (length now) (LeftSince first past) (LeftSince first_now now) (IsImage first_now now)

pub elapses_same : (first : List ℕ) (past : List DiskCall) → Lasts first past first past
elapses_same first past = record { later = omega arith; nothing_else = λ t c le left. inl left; keeps = λ t c le left. left }

one_more : (first : List ℕ) (call : DiskCall) (past : List DiskCall) (t : ℕ) (c : List ℕ) → LeftSince first (call ∷ past) t c → LeftSince first past t c ⊎ IsImage first (call ∷ past) c
one_more first call past t c (zero, le, image) = inr image
one_more first call past t c (suc j, le, image) = inl (j, omega arith, image)

pub elapses_call : (first : List ℕ) (call : DiskCall) (past : List DiskCall) → Lasts first past first (call ∷ past)
elapses_call first call past = record {
  later = omega arith;
  nothing_else = λ t c le left. one_more first call past t c left;
  keeps = λ t c le left. (suc left.0, omega (arith, left.1), left.2);
}

-- the same, where the new state is known by equations
pub elapses_kept : (first first_now : List ℕ) (past now : List DiskCall) → first_now ≡ first → now ≡ past → Lasts first past first_now now
elapses_kept first first_now past now same kept =
    subst (λ (l : List DiskCall). Lasts first past first_now l) (sym kept) (subst (λ (f : List ℕ). Lasts first past f past) (sym same) (elapses_same first past))

pub elapses_added : (first first_now : List ℕ) (call : DiskCall) (past now : List DiskCall) → first_now ≡ first → now ≡ call ∷ past → Lasts first past first_now now
elapses_added first first_now call past now same added =
    subst (λ (l : List DiskCall). Lasts first past first_now l) (sym added) (subst (λ (f : List ℕ). Lasts first past f (call ∷ past)) (sym same) (elapses_call first call past))

pub torn_kept : (first first_now : List ℕ) (past now : List DiskCall) (at n : ℕ) → first_now ≡ first → now ≡ past → Follows (IsTornRange at n) (IsImage first past) (IsImage first_now now)
torn_kept first first_now past now at n same kept c left =
    (c, subst (λ (l : List DiskCall). IsImage first l c) kept (subst (λ (f : List ℕ). IsImage f now c) same left), torn_same at n c)

pub torn_added : (first first_now : List ℕ) (past now : List DiskCall) (at n : ℕ) → first_now ≡ first → now ≡ Torn at n ∷ past → Follows (IsTornRange at n) (IsImage first past) (IsImage first_now now)
torn_added first first_now past now at n same added c left =
    subst (λ (l : List DiskCall). IsImage first l c) added (subst (λ (f : List ℕ). IsImage f now c) same left)

-- a sync leaves one of the images
pub synced_keeps : (first : List ℕ) (past : List DiskCall) (c : List ℕ) → IsImage first (Synced ∷ past) c → IsImage first past c
synced_keeps first past c is = subst (λ (b : List ℕ). IsImage first past b) (sym is) (content_is_image first past)

pub written_added : (first first_now : List ℕ) (past now : List DiskCall) (at : ℕ) (bytes : List ℕ) → first_now ≡ first → now ≡ Written at bytes ∷ past → Follows (IsTornRange at (length bytes)) (IsImage first past) (IsImage first_now now)
written_added first first_now past now at bytes same added c left =
    subst (λ (l : List DiskCall). IsImage first l c) added (subst (λ (f : List ℕ). IsImage f now c) same left)

pub synced_added : (first first_now : List ℕ) (past now : List DiskCall) → first_now ≡ first → now ≡ Synced ∷ past → (c : List ℕ) → IsImage first_now now c → IsImage first past c
synced_added first first_now past now same added c left =
    synced_keeps first past c (subst (λ (l : List DiskCall). IsImage first l c) added (subst (λ (f : List ℕ). IsImage f now c) same left))

pub images_kept : (first first_now : List ℕ) (past now : List DiskCall) → first_now ≡ first → now ≡ past → (c : List ℕ) → IsImage first_now now c → IsImage first past c
images_kept first first_now past now same kept c left =
    subst (λ (l : List DiskCall). IsImage first l c) kept (subst (λ (f : List ℕ). IsImage f now c) same left)

-- what holds of a result that is Ok or Err
pub either : {X E : Type 0} (result : Result X E) (P Q : Type 0) → OnOk result P → OnErr result Q → P ⊎ Q
either (Ok x) P Q ok err = inl ok
either (Err e) P Q ok err = inr err

-- where a sync makes no difference, a crash leaves what the disk reads as
pub sure_already : (first : List ℕ) (past : List DiskCall) → (IsUnsure past → ⊥) → (image : List ℕ) → IsImage first past image → image ≡ content_after first past
sure_already first [] sure image is = is
sure_already first (Synced ∷ past) sure image is = is
sure_already first (Written at bytes ∷ past) sure image is = absurd (sure tt)
sure_already first (Torn at size ∷ past) sure image is = absurd (sure tt)

-- no call was recorded, and then perhaps one
module _ (old mid new : DiskState) (kept : KeepsPast old mid) where
  pub kept_images : Keeps (MayLeave old) (MayLeave mid)
  kept_images image left = images_kept old.first mid.first old.past mid.past kept.same_first kept.same_past image left

  pub kept_torn : (at n : ℕ) → Follows (IsTornRange at n) (MayLeave old) (MayLeave mid)
  kept_torn at n = torn_kept old.first mid.first old.past mid.past at n kept.same_first kept.same_past

  pub kept_time : Passes old mid
  kept_time = elapses_kept old.first mid.first old.past mid.past kept.same_first kept.same_past

  module _ (at n : ℕ) (torn : RecordsTorn at n mid new) where
    abbrev first : new.first ≡ old.first
    first = torn.same_first ∙ kept.same_first

    pub torn_images : Follows (IsTornRange at n) (MayLeave old) (MayLeave new)
    torn_images = ⊎_elim (λ same. torn_kept old.first new.first old.past new.past at n first (same ∙ kept.same_past))
        (λ added. torn_added old.first new.first old.past new.past at n first (added ∙ ap (λ (l : List DiskCall). Torn at n ∷ l) kept.same_past)) torn.recorded

    pub torn_time : Passes old new
    torn_time = ⊎_elim (λ same. elapses_kept old.first new.first old.past new.past first (same ∙ kept.same_past))
        (λ added. elapses_added old.first new.first (Torn at n) old.past new.past first (added ∙ ap (λ (l : List DiskCall). Torn at n ∷ l) kept.same_past)) torn.recorded

  module _ (at : ℕ) (bytes : List ℕ) (written : RecordsWrite at bytes mid new) where
    pub written_images : Follows (IsTornRange at (length bytes)) (MayLeave old) (MayLeave new)
    written_images = written_added old.first new.first old.past new.past at bytes (written.same_first ∙ kept.same_first) (written.recorded ∙ ap (λ (l : List DiskCall). Written at bytes ∷ l) kept.same_past)

    pub written_time : Passes old new
    written_time = elapses_added old.first new.first (Written at bytes) old.past new.past (written.same_first ∙ kept.same_first) (written.recorded ∙ ap (λ (l : List DiskCall). Written at bytes ∷ l) kept.same_past)

  module _ (synced : RecordsSync mid new) where
    abbrev first_synced : new.first ≡ old.first
    first_synced = synced.same_first ∙ kept.same_first

    pub synced_images : Keeps (MayLeave old) (MayLeave new)
    synced_images image left = ⊎_elim (λ added. synced_added old.first new.first old.past new.past first_synced (added ∙ ap (λ (l : List DiskCall). Synced ∷ l) kept.same_past) image left)
        (λ same. images_kept old.first new.first old.past new.past first_synced (same.0 ∙ kept.same_past) image left) synced.recorded

    pub synced_time : Passes old new
    synced_time = ⊎_elim (λ added. elapses_added old.first new.first Synced old.past new.past first_synced (added ∙ ap (λ (l : List DiskCall). Synced ∷ l) kept.same_past))
        (λ same. elapses_kept old.first new.first old.past new.past first_synced (same.0 ∙ kept.same_past)) synced.recorded

    pub synced_sure : (image : List ℕ) → MayLeave new image → image ≡ content_after new.first new.past
    synced_sure image left =
        ⊎_elim (λ added. subst (λ (l : List DiskCall). IsImage new.first l image → image ≡ content_after new.first l) (sym added) (λ is. is) left)
        (λ same. subst (λ (l : List DiskCall). IsImage new.first l image → image ≡ content_after new.first l) (sym same.0) (sure_already new.first mid.past same.1 image) left) synced.recorded

-- no call was recorded, twice
pub kept_twice : (old mid new : DiskState) → KeepsPast old mid → KeepsPast mid new → Passes old new
kept_twice old mid new first second =
    elapses_kept old.first new.first old.past new.past (second.same_first ∙ first.same_first) (second.same_past ∙ first.same_past)

-- the calls from one on
pub at_call : (past : List DiskCall) (i : ℕ) (call : DiskCall) → i < length past → call ≡ slice_index_or past i call → drop i past ≡ call ∷ drop (i + 1) past
at_call past i call below is = drop_more past i call below ∙ ap (λ (x : DiskCall). x ∷ drop (i + 1) past) (sym is)
