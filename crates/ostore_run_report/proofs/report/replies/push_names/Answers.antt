use Rattle.std.proofs.Common.{rules, ◌≡◌, ◌++◌, codes, ℕ, ◌-◌, ◌<◌, ◌≤◌, take, length, List, [], ◌∷◌, get_or, drop, arith, append_assoc}
use Rattle.std.proofs.lemmas.List.{take_all}
use Rattle.std.specs.List.{flat_map}
use Rattle.ostore_graph_model.specs.declared.values.Listed.{Listed}
use Rattle.ostore_run_report.specs.Report.{listed_text, names_text}
use Rattle.ostore_run_report.proofs.report.replies.push_names.Goals as goal

-- a list of names is its first name, and each further one behind a space
names_text-printed : (names : List Listed) (d : Listed) (n : ℕ) (old first_out out : List ℕ) → 0 < length names → length (take (length names - 1) (drop 1 names)) ≤ n → first_out ≡ old ++ listed_text (get_or names 0 d) → out ≡ first_out ++ flat_map (λ listed. codes " " ++ listed_text listed) (take n (take (length names - 1) (drop 1 names))) → out ≡ old ++ names_text names
names_text-printed [] d n old first_out out some all is_first is_out = absurd (omega arith)
names_text-printed (first ∷ others) d n old first_out out some all is_first is_out =
    let whole : take (length (first ∷ others) - 1) others ≡ others = take_all _ others (omega arith) in
    let far : length others ≤ n = rw whole at all in
    let printed : out ≡ first_out ++ flat_map (λ listed. codes " " ++ listed_text listed) others = rw (whole, take_all n others far) at is_out in
    rw (printed, is_first) (append_assoc old (listed_text first) (flat_map (λ listed. codes " " ++ listed_text listed) others))

pub returns : goal.returns
returns c =
    let some : 0 < length c.args.names.now = search rules in
    names_text-printed c.args.names.now _ _ _ _ _ some c.loop-listed-test.false c.in_ok-push_listed.ensures c.loop-listed.invariant
