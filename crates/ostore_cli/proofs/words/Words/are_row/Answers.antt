use Rattle.std.proofs.Common.{◌≡◌, [], ◌∷◌, List, ℕ, Bool, true, length, get_or, sym, ap, ◌∙◌, arith, Decides}
use Rattle.std.proofs.lemmas.Bool.Decides.{Decides-eqb}
use Rattle.std.proofs.lemmas.Slice.Eq.{slice_eq-Decides}
use Rattle.ostore_cli.proofs.words.Words.are_row.Goals as goal

-- a list of one word is that word alone
one_word : (ws : List (List ℕ)) (w text : List ℕ) (r : Bool) → length ws ≡ 1 → w ≡ get_or ws 0 w → Decides r (w ≡ text) → (r ≡ true → ws ≡ text ∷ []) × (ws ≡ text ∷ [] → r ≡ true)
one_word [] w text r len is decides = absurd (omega arith)
one_word (x ∷ []) w text r len is decides =
    (λ t. ap (λ (v : List ℕ). v ∷ []) (sym is ∙ decides.0 t), λ e. decides.1 (is ∙ ap (λ (vs : List (List ℕ)). get_or vs 0 w) e))
one_word (x ∷ y ∷ ws) w text r len is decides = absurd (omega arith)

pub returns-in-len1 : goal.returns-in-len1
returns-in-len1 c =
    let same : c.items.result.now ≡ c.args.self.now = c.items.ensures ∙ c.self.view_is in
    one_word c.args.self.now c.word-item.result (116 ∷ 114 ∷ 121 ∷ []) c.eq.result
    (sym (ap length same) ∙ omega arith)
    (c.word-item.is ∙ ap (λ (ws : List (List ℕ)). get_or ws 0 c.word-item.result) same)
    (slice_eq-Decides Decides-eqb c.word-item.result (116 ∷ 114 ∷ 121 ∷ []) c.eq.result cc)
