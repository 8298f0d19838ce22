-- What loops over a source and a sink keep, and what it comes to at their ends.
use Rattle.std.proofs.Common.{◌≡◌, ℕ, ◌+◌, ◌-◌, ◌≤◌, List, [], length, take, drop, Option, Some, None, sym, ap, subst, ◌∙◌, arith}
use Rattle.std.proofs.lemmas.List.{take_all, drop_all, length-drop}
use Rattle.ostore_base.specs.Streams.{appended}
use Rattle.ostore_base.proofs.StreamLemmas.{appended-more}
use Rattle.ostore_cli.specs.Streams.{longest_read, IsWholeRead}
use Rattle.ostore_cli.specs.inside.HasRead.{HasRead, IsAtEnd}

-- all of a text whose front was read, and of which nothing is left
ends_there : (bytes all : List ℕ) → all ≡ take (length all) bytes → drop (length all) bytes ≡ [] → (n : ℕ) → length all ≤ n → (drop n bytes ≡ []) × (all ≡ take n bytes)
ends_there bytes all front none n long =
    let short : length bytes ≤ length all = omega (arith, length-drop (length all) bytes, ap length none) in
    (drop_all n bytes (omega arith), front ∙ take_all (length all) bytes short ∙ sym (take_all n bytes (omega arith)))

-- reading has come to the end
pub whole_at_end : (first now : Option (List ℕ)) (all : List ℕ) → HasRead first now all → IsAtEnd now → length all ≤ longest_read → IsWholeRead first now all
whole_at_end None now all read end few = read
whole_at_end (Some bytes) now all read end few =
    let none : drop (length all) bytes ≡ [] = subst IsAtEnd read.0 end in
    let at_end = ends_there bytes all read.1 none longest_read few in
    (read.0 ∙ ap (λ (left : List ℕ). Some left) (none ∙ sym at_end.0), at_end.1)

-- reading has come to the most that is read
pub whole_at_limit : (first now : Option (List ℕ)) (all : List ℕ) → HasRead first now all → length all ≡ longest_read → IsWholeRead first now all
whole_at_limit None now all read full = read
whole_at_limit (Some bytes) now all read full =
    (subst (λ (n : ℕ). now ≡ Some (drop n bytes)) full read.0, subst (λ (n : ℕ). all ≡ take n bytes) full read.1)

-- one more piece was written, where what is left goes by its length
pub appended_rest : (before mid now : Option (List ℕ)) (bytes : List ℕ) (at n : ℕ) → mid ≡ appended before (take at bytes) → now ≡ appended mid (take n (take (length bytes - at) (drop at bytes))) → now ≡ appended before (take (at + n) bytes)
appended_rest before mid now bytes at n so_far more =
    let whole : take (length bytes - at) (drop at bytes) ≡ drop at bytes = take_all (length bytes - at) (drop at bytes) (omega (arith, length-drop at bytes)) in
    more ∙ ap (λ (b : List ℕ). appended mid (take n b)) whole
    ∙ ap (λ (o : Option (List ℕ)). appended o (take n (drop at bytes))) so_far
    ∙ appended-more before bytes at n
