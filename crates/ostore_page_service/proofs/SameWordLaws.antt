-- A word is determined by its parts.
use Rattle.std.proofs.Common.{◌≡◌, ℕ, ◌+◌, ◌-◌, ◌/◌, ◌%◌, ◌^◌, ◌<◌, ◌≤◌, sym, ap, ◌∙◌, arith, ⊎_elim}
use Rattle.std.proofs.lemmas.Bool.{cases_lt}
use Rattle.std.proofs.lemmas.Nat.{shr-shr}
use Rattle.std.proofs.lemmas.Nat.Bits.{same_from_bits_below}
use Rattle.ostore_page_service.specs.Parts.{part_of}
use Rattle.ostore_page_service.specs.Words.{HaveSameParts}
use Rattle.ostore_page_service.specs.declared.word.TheConstants.{KEEP, OWNER, FETCHER, WANTED, END, NUMBER}
use Rattle.ostore_page_service.proofs.WordLaws.{bit_of_part}

module _ (w v : ℕ) (h : HaveSameParts w v) where
  -- the bit i is the bit d of a part that begins at f
  in_part : (f m : ℕ) → part_of v f m ≡ part_of w f m → (i d : ℕ) → f + d ≡ i → d + 1 ≤ m → part_of v i 1 ≡ part_of w i 1
  in_part f m same i d at low =
      ap (λ (x : ℕ). part_of v x 1) (sym at) ∙ sym (bit_of_part v f m d low) ∙ ap (λ (x : ℕ). part_of x d 1) same ∙ bit_of_part w f m d low ∙ ap (λ (x : ℕ). part_of w x 1) at

  in_rest : (i : ℕ) → END ≤ i → part_of v i 1 ≡ part_of w i 1
  in_rest i low =
      let d : ℕ = i - END in
      let at : END + d ≡ i = omega arith in
      let shr = λ (n : ℕ). shr-shr n END d in
      ap (λ (x : ℕ). part_of v x 1) (sym at) ∙ ap (λ (x : ℕ). x % 2) (sym (shr v) ∙ ap (λ (x : ℕ). x / 2 ^ d) h.same ∙ shr w) ∙ ap (λ (x : ℕ). part_of w x 1) at

  each : (i : ℕ) → part_of v i 1 ≡ part_of w i 1
  each i = ⊎_elim (λ l. h.used i l) (λ g.
      ⊎_elim (λ l. let d : ℕ = i - KEEP in let at : KEEP + d ≡ i = omega arith in ap (λ (x : ℕ). part_of v x 1) (sym at) ∙ h.kept d (omega arith) ∙ ap (λ (x : ℕ). part_of w x 1) at) (λ g2.
      ⊎_elim (λ l. in_part OWNER NUMBER h.owned i (i - OWNER) (omega arith) (omega arith)) (λ g3.
      ⊎_elim (λ l. in_part FETCHER NUMBER h.fetched i (i - FETCHER) (omega arith) (omega arith)) (λ g4.
      ⊎_elim (λ l. in_part WANTED 1 h.wants i (i - WANTED) (omega arith) (omega arith)) (λ g5. in_rest i g5)
      (cases_lt i END)) (cases_lt i WANTED)) (cases_lt i FETCHER)) (cases_lt i OWNER)) (cases_lt i KEEP)

  pub same_word : w < 2 ^ 64 → v < 2 ^ 64 → w ≡ v
  same_word a b = same_from_bits_below 64 w v a b (λ i l. sym (each i))
