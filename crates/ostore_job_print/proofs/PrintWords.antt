-- Lines of words, as they are printed.
use Rattle.std.proofs.Common.{◌≡◌, ◌-◌, ◌<◌, ◌≤◌, ℕ, List, [], ◌∷◌, ◌++◌, length, get_or, take, drop, codes, refl, ap, sym, ◌∙◌, append_assoc, arith}
use Rattle.std.proofs.lemmas.List.{take_all, append-nil}
use Rattle.std.specs.List.{flat_map}
use Rattle.ostore_text_words.specs.Lines.{joined, text_of_lines}
use Rattle.ostore_job_text.specs.declared.job.JobClient.{JobClient}
use Rattle.ostore_job_text.specs.declared.job.JobTurn.{JobTurn}
use Rattle.ostore_job_text.specs.Canonical.{turns_line, turns_lines}
use Rattle.ostore_command_text.specs.CommandWords.{path_word}
use Rattle.ostore_job_print.specs.inside.Spaced.{spaced}

-- a line is its first word, each further one behind a space, and a newline
pub joined_parts : (word : List ℕ) (words : List (List ℕ)) → joined (word ∷ words) ≡ word ++ (spaced words ++ codes "\n")
joined_parts word [] = refl
joined_parts word (next ∷ words) = ap (λ (bs : List ℕ). word ++ 32 ∷ bs) (joined_parts next words ∙ sym (append_assoc next (spaced words) (codes "\n")))

-- the same, as the parts are printed one after the other
pub line_printed : (word : List ℕ) (words : List (List ℕ)) (old first all out : List ℕ) → first ≡ old ++ word → all ≡ first ++ spaced words → out ≡ all ++ codes "\n" → out ≡ old ++ joined (word ∷ words)
line_printed word words old first all out a b c =
    c ∙ ap (λ (bs : List ℕ). bs ++ codes "\n") (b ∙ ap (λ (bs : List ℕ). bs ++ spaced words) a)
    ∙ append_assoc (old ++ word) (spaced words) (codes "\n") ∙ append_assoc old word (spaced words ++ codes "\n")
    ∙ ap (λ (bs : List ℕ). old ++ bs) (sym (joined_parts word words))

-- a line `turns` is the text of its entries
pub turns_text : (clients : List JobClient) (turns : List JobTurn) → 0 < length turns → text_of_lines (turns_lines clients turns) ≡ joined (turns_line clients turns)
turns_text clients [] some = absurd (omega arith)
turns_text clients (turn ∷ turns) some = append-nil (joined (turns_line clients (turn ∷ turns)))

-- a path is its first member, and each further one behind a dot
pub path_printed : (path : List (List ℕ)) (d : List ℕ) (n : ℕ) (old first_out out : List ℕ) → 0 < length path → length (take (length path - 1) (drop 1 path)) ≤ n → first_out ≡ old ++ get_or path 0 d → out ≡ first_out ++ flat_map (λ member. codes "." ++ member) (take n (take (length path - 1) (drop 1 path))) → out ≡ old ++ path_word path
path_printed [] d n old first_out out some all is_first is_out = absurd (omega arith)
path_printed (first ∷ others) d n old first_out out some all is_first is_out =
    let whole : take (length (first ∷ others) - 1) others ≡ others = take_all _ others (omega arith) in
    let far : length others ≤ n = rw whole at all in
    let printed : out ≡ first_out ++ flat_map (λ member. codes "." ++ member) others = rw (whole, take_all n others far) at is_out in
    rw (printed, is_first) (append_assoc old first (flat_map (λ member. codes "." ++ member) others))
