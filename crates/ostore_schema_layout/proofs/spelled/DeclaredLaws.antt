-- What lines declare is what they spell, and what they spell they declare.
use Rattle.std.proofs.Common.{◌≡◌, ℕ, List, [], ◌∷◌, ◌++◌, map, codes, Ok, refl, ap₂, subst, ◌∙◌, inl, inr}
use Rattle.std.proofs.lemmas.Bool.{cond-true, cond-false}
use Rattle.std.specs.List.{AllByRecursion}
use Rattle.ostore_text_words.specs.Lines.{PlacedLine, bare_words, bare_lines}
use Rattle.ostore_schema_layout.specs.declared.declarations.NameAt.{NameAt}
use Rattle.ostore_schema_layout.specs.declared.declarations.TypeDeclaration.{TypeDeclaration}
use Rattle.ostore_schema_layout.specs.declared.declarations.MemberDeclaration.{MemberDeclaration}
use Rattle.ostore_text_words.specs.LineWords.{◌>>=◌}
use Rattle.ostore_schema_layout.specs.DeclaredBy.{member_at, declared_type, type_name_at, is_type_line, declared_behind, declared_by}
use Rattle.ostore_schema_layout.proofs.spelled.Declared.{spelled_kind, spelled_member, spelled_types, IsNamedMember, AreNamed, unplaced_name, unplaced_member, unplaced}
use Rattle.ostore_text_words.proofs.LineWordLaws.{bind_again, bind_ok, same_ok, chosen, bare_at, bare_from_first}
use Rattle.ostore_schema_layout.proofs.spelled.DeclaredWords.{type_line, member_line}
use Rattle.ostore_schema_layout.proofs.spelled.DeclaredKinds.{cons_are, member_taken, type_name_taken}
use Rattle.ostore_schema_layout.proofs.spelled.DeclaredAgain.{member_again, type_name_again}

-- ---- read, and so spelled

abbrev pub Behind : Type 0
Behind = List MemberDeclaration × List TypeDeclaration

-- the lines behind a type's, as they are spelled
abbrev pub spelled_behind : Behind → List (List (List ℕ))
spelled_behind behind = map spelled_member behind.0 ++ spelled_types behind.1

abbrev pub IsSpelledBehind : List (List (List ℕ)) → Behind → Type 0
IsSpelledBehind lines behind = (lines ≡ spelled_behind behind) × AllByRecursion IsNamedMember behind.0 × AreNamed behind.1

abbrev AreSpelled : List (List (List ℕ)) → List TypeDeclaration → Type 0
AreSpelled lines types = (lines ≡ spelled_types types) × AreNamed types

-- the words of a line, from the first on
pub bare_words_are : (line : PlacedLine) (words : List (List ℕ)) → bare_at line 0 ≡ words → bare_words line ≡ words
bare_words_are line words e = let f = bare_from_first line.words in cc

type_spelled : (line : PlacedLine) (lines : List PlacedLine) (name : NameAt) (behind : Behind) → type_name_at line ≡ Ok name → IsSpelledBehind (bare_lines lines) behind
    → AreSpelled (bare_lines (line ∷ lines)) (declared_type name behind.0 ∷ behind.1)
type_spelled line lines name behind e rest =
    let t = type_name_taken line name e in
    (cons_are (bare_lines (line ∷ lines)) (bare_words line) (codes "type" ∷ name.name ∷ []) (bare_lines lines) (spelled_behind behind) refl (bare_words_are line _ t.0) rest.0, ((t.1, rest.1), rest.2))

member_spelled : (line : PlacedLine) (lines : List PlacedLine) (member : MemberDeclaration) (behind : Behind) → member_at line ≡ Ok member → IsSpelledBehind (bare_lines lines) behind
    → IsSpelledBehind (bare_lines (line ∷ lines)) (member ∷ behind.0, behind.1)
member_spelled line lines member behind e rest =
    let t = member_taken line member e in
    (cons_are (bare_lines (line ∷ lines)) (bare_words line) (spelled_member member) (bare_lines lines) (spelled_behind behind) refl (bare_words_are line _ t.0) rest.0, (t.1, rest.1), rest.2)

pub behind_spelled : (lines : List PlacedLine) (behind : Behind) → declared_behind lines ≡ Ok behind → IsSpelledBehind (bare_lines lines) behind
unfolding declared_behind
behind_spelled [] behind e = subst (IsSpelledBehind []) (same_ok ([], []) behind e) (refl, tt, tt)
behind_spelled (line ∷ lines) behind e =
    elim (chosen (is_type_line line) (type_name_at line >>= λ name. declared_behind lines >>= λ rest. Ok ([], declared_type name rest.0 ∷ rest.1)) (member_at line >>= λ member. declared_behind lines >>= λ rest. Ok (member ∷ rest.0, rest.1)) (Ok behind) e) [
      | inl g ↦
          let n = bind_ok (type_name_at line) (λ name. declared_behind lines >>= λ rest. Ok ([], declared_type name rest.0 ∷ rest.1)) behind g.1 in
          let b = bind_ok (declared_behind lines) (λ rest. Ok ([], declared_type n.0 rest.0 ∷ rest.1)) behind n.2 in
          let t = type_spelled line lines n.0 b.0 n.1 (behind_spelled lines b.0 b.1) in
          subst (IsSpelledBehind (bare_lines (line ∷ lines))) (same_ok _ behind b.2) (t.0, tt, t.1)
      | inr g ↦
          let m = bind_ok (member_at line) (λ member. declared_behind lines >>= λ rest. Ok (member ∷ rest.0, rest.1)) behind g.1 in
          let b = bind_ok (declared_behind lines) (λ rest. Ok (m.0 ∷ rest.0, rest.1)) behind m.2 in
          subst (IsSpelledBehind (bare_lines (line ∷ lines))) (same_ok _ behind b.2) (member_spelled line lines m.0 b.0 m.1 (behind_spelled lines b.0 b.1))
    ]

-- what lines declare is what they spell, with identifiers as names
pub declared_spelled : (lines : List PlacedLine) (types : List TypeDeclaration) → declared_by lines ≡ Ok types → (bare_lines lines ≡ spelled_types types) × AreNamed types
unfolding declared_by
declared_spelled [] types e = subst (AreSpelled []) (same_ok [] types e) (refl, tt)
declared_spelled (line ∷ lines) types e =
    let n = bind_ok (type_name_at line) (λ name. declared_behind lines >>= λ rest. Ok (declared_type name rest.0 ∷ rest.1)) types e in
    let b = bind_ok (declared_behind lines) (λ rest. Ok (declared_type n.0 rest.0 ∷ rest.1)) types n.2 in
    subst (AreSpelled (bare_lines (line ∷ lines))) (same_ok _ types b.2) (type_spelled line lines n.0 b.0 n.1 (behind_spelled lines b.0 b.1))

-- ---- spelled, and so read

-- the same declarations are read, each at its place
abbrev pub ReadsBehind : List PlacedLine → List MemberDeclaration → List TypeDeclaration → Type 0
ReadsBehind lines members types = (placed : Behind) × (declared_behind lines ≡ Ok placed) × (map unplaced_member placed.0 ≡ map unplaced_member members) × (unplaced placed.1 ≡ unplaced types)

-- the first line, and those behind it
pub first_line : (line : PlacedLine) (lines : List PlacedLine) (words : List (List ℕ)) (others : List (List (List ℕ))) → bare_lines (line ∷ lines) ≡ words ∷ others → (bare_at line 0 ≡ words) × (bare_lines lines ≡ others)
first_line line lines words others e =
    let whole : bare_words line ≡ words = cc in
    (bare_from_first line.words ∙ whole, cc)

-- a type without places, from its parts
type_unplaced : (name other : NameAt) (placed members : List MemberDeclaration) (types others : List TypeDeclaration) → name.name ≡ other.name → map unplaced_member placed ≡ map unplaced_member members → unplaced types ≡ unplaced others
    → unplaced (declared_type name placed ∷ types) ≡ unplaced (declared_type other members ∷ others)
type_unplaced name other placed members types others e f g =
    ap₂ (λ (ty : TypeDeclaration) (tys : List TypeDeclaration). ty ∷ tys) (ap₂ (λ (n : List ℕ) (ms : List MemberDeclaration). declared_type (unplaced_name n) ms) e f) g

pub behind_again : (lines : List PlacedLine) (members : List MemberDeclaration) (types : List TypeDeclaration) → bare_lines lines ≡ spelled_behind (members, types) → AllByRecursion IsNamedMember members → AreNamed types
    → ReadsBehind lines members types
unfolding declared_behind
behind_again [] [] [] e h k = (([], []), refl, refl, refl)
behind_again [] [] (ty ∷ types) e h k = absurd cc
behind_again [] (member ∷ members) types e h k = absurd cc
behind_again (line ∷ lines) [] [] e h k = absurd cc
behind_again (line ∷ lines) [] (ty ∷ types) e h k =
    let f = first_line line lines (codes "type" ∷ ty.name.name ∷ []) (spelled_behind (ty.members, types)) e in
    let n = type_name_again line ty.name.name f.0 k.0.0 in
    let b = behind_again lines ty.members types f.1 k.0.1 k.1 in
    let placed : Behind = ([], declared_type n.0 b.0.0 ∷ b.0.1) in
    let read : (type_name_at line >>= λ name. declared_behind lines >>= λ rest. Ok ([], declared_type name rest.0 ∷ rest.1)) ≡ Ok placed =
    bind_again (type_name_at line) (λ name. declared_behind lines >>= λ rest. Ok ([], declared_type name rest.0 ∷ rest.1)) n.0 (Ok placed) n.1
    (bind_again (declared_behind lines) (λ rest. Ok ([], declared_type n.0 rest.0 ∷ rest.1)) b.0 (Ok placed) b.1 refl) in
    (placed, cond-true (is_type_line line) _ _ (type_line line (ty.name.name ∷ []) f.0) ∙ read, refl, type_unplaced n.0 ty.name b.0.0 ty.members b.0.1 types n.2 b.2 b.3)
behind_again (line ∷ lines) (member ∷ members) types e h k =
    let f = first_line line lines (spelled_member member) (spelled_behind (members, types)) e in
    let m = member_again line member f.0 h.0 in
    let b = behind_again lines members types f.1 h.1 k in
    let placed : Behind = (m.0 ∷ b.0.0, b.0.1) in
    let read : (member_at line >>= λ first. declared_behind lines >>= λ rest. Ok (first ∷ rest.0, rest.1)) ≡ Ok placed =
    bind_again (member_at line) (λ first. declared_behind lines >>= λ rest. Ok (first ∷ rest.0, rest.1)) m.0 (Ok placed) m.1
    (bind_again (declared_behind lines) (λ rest. Ok (m.0 ∷ rest.0, rest.1)) b.0 (Ok placed) b.1 refl) in
    (placed, cond-false (is_type_line line) _ _ (member_line line member.name.name (spelled_kind member.kind) f.0 h.0.0) ∙ read, ap₂ (λ (x : MemberDeclaration) (xs : List MemberDeclaration). x ∷ xs) m.2 b.2, b.3)

-- what lines spell with identifiers as names they declare, each name at its place
pub spelled_declared : (lines : List PlacedLine) (types : List TypeDeclaration) → bare_lines lines ≡ spelled_types types → AreNamed types → (placed : List TypeDeclaration) × (declared_by lines ≡ Ok placed) × (unplaced placed ≡ unplaced types)
unfolding declared_by
spelled_declared [] [] e h = ([], refl, refl)
spelled_declared [] (ty ∷ types) e h = absurd cc
spelled_declared (line ∷ lines) [] e h = absurd cc
spelled_declared (line ∷ lines) (ty ∷ types) e h =
    let f = first_line line lines (codes "type" ∷ ty.name.name ∷ []) (spelled_behind (ty.members, types)) e in
    let n = type_name_again line ty.name.name f.0 h.0.0 in
    let b = behind_again lines ty.members types f.1 h.0.1 h.1 in
    let placed : List TypeDeclaration = declared_type n.0 b.0.0 ∷ b.0.1 in (
      placed,
      bind_again (type_name_at line) (λ name. declared_behind lines >>= λ rest. Ok (declared_type name rest.0 ∷ rest.1)) n.0 (Ok placed) n.1
          (bind_again (declared_behind lines) (λ rest. Ok (declared_type n.0 rest.0 ∷ rest.1)) b.0 (Ok placed) b.1 refl),
      type_unplaced n.0 ty.name b.0.0 ty.members b.0.1 types n.2 b.2 b.3,
    )
