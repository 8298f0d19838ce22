-- Reading line by line, as the loops of the reader do.
use Rattle.std.proofs.Common.{◌≡◌, ℕ, ◌+◌, ◌<◌, ◌≤◌, Bool, true, false, not, IsTrue, List, [], ◌∷◌, ◌++◌, length, drop, Result, Ok, Err, IfOk, ◌⊎◌, inl, inr, refl, sym, ap, ◌∙◌, append_assoc, arith}
use Rattle.std.proofs.lemmas.Bool.{false≢true}
use Rattle.std.proofs.lemmas.List.{append-nil}
use Rattle.ostore_text_words.specs.declared.fault.TextFault.{TextFault}
use Rattle.ostore_text_words.specs.declared.fault.TextFault.TheVariants as texts
use Rattle.ostore_text_words.specs.Gives.{Fails}
use Rattle.ostore_text_words.specs.Lines.{PlacedLine, LinesAhead, has_line}
use Rattle.ostore_text_words.specs.LineWords.{◌>>=◌, line_at}
use Rattle.ostore_schema_layout.specs.declared.declarations.NameAt.{NameAt}
use Rattle.ostore_schema_layout.specs.declared.declarations.TypeDeclaration.{TypeDeclaration}
use Rattle.ostore_schema_layout.specs.declared.declarations.MemberDeclaration.{MemberDeclaration}
use Rattle.ostore_schema_layout.specs.declared.fault.SchemaFault.{SchemaFault}
use Rattle.ostore_schema_layout.specs.declared.fault.SchemaFault.TheVariants as faults
use Rattle.ostore_schema_layout.specs.DeclaredBy.{is_type_line, member_at, type_name_at, declared_type, declared_behind, declared_by}
use Rattle.ostore_schema_layout.specs.Parsed.{IsOrMemory, schema_of}
use Rattle.ostore_schema_layout.specs.Titles.{fault_of_words}
use Rattle.ostore_schema_layout.specs.inside.Gives.{has_member, before_types, before_others}

abbrev Members : Type 0
Members = List MemberDeclaration

abbrev Types : Type 0
Types = List TypeDeclaration

-- a fault of a part is a fault of the whole
pub fails_so : {X Y : Type 0} (fault : TextFault) (part : Result X ℕ) (total : Result Y ℕ) → ((at : ℕ) → part ≡ Err at → total ≡ Err at) → Fails fault part → Fails fault total
fails_so (texts.Syntax at) part total so h = so at h
fails_so texts.OutOfMemory part total so h = tt

-- ---- members

-- what was read before, and what is still read
abbrev pub with_members : Members → Result (Members × Types) ℕ → Result (Members × Types) ℕ
with_members front later = later >>= λ others. Ok (front ++ others.0, others.1)

pub members_begin : (later : Result (Members × Types) ℕ) → with_members [] later ≡ later
members_begin (Err at) = refl
members_begin (Ok others) = refl

members_regroup : (front : Members) (member : MemberDeclaration) (later : Result (Members × Types) ℕ)
    → with_members front (later >>= λ others. Ok (member ∷ others.0, others.1)) ≡ with_members (front ++ member ∷ []) later
members_regroup front member (Err at) = refl
members_regroup front member (Ok others) = ap (λ (ms : Members). Ok (ms, others.1)) (sym (append_assoc front (member ∷ []) others.0))

no_type : (test : Bool) → not test ≡ true → test ≡ false
no_type true h = absurd (false≢true h)
no_type false h = refl

a_type : (test : Bool) → not test ≡ false → test ≡ true
a_type true h = refl
a_type false h = absurd (false≢true (sym h))

-- the lines ahead, of which the first is judged
abbrev pub ahead : List PlacedLine → ℕ → LinesAhead
ahead lines end = record { lines = lines; end = end }

-- a member's line is taken
pub member_taken : (front : Members) (lines : List PlacedLine) (end : ℕ) (left : List PlacedLine) (member : MemberDeclaration) → has_member lines ≡ true → (line_at (ahead lines end) >>= member_at) ≡ Ok member → left ≡ drop 1 lines
    → (with_members front (declared_behind lines) ≡ with_members (front ++ member ∷ []) (declared_behind left)) × (length left < length lines)
unfolding declared_behind
member_taken front [] end left member more h same = absurd (false≢true more)
member_taken front (line ∷ lines) end left member more h same =
    let step : with_members front (declared_behind (line ∷ lines)) ≡ with_members (front ++ member ∷ []) (declared_behind lines) =
    rw (no_type (is_type_line line) more, h) (members_regroup front member (declared_behind lines)) in
    let count : length left ≡ length lines = ap length same in
    (step ∙ ap (λ (ls : List PlacedLine). with_members (front ++ member ∷ []) (declared_behind ls)) (sym same), omega arith)

-- a member's line has a fault
pub member_fails : (fault : TextFault) (front : Members) (lines : List PlacedLine) (end : ℕ) (total : Result (Members × Types) ℕ) → has_member lines ≡ true → Fails fault (line_at (ahead lines end) >>= member_at)
    → with_members front (declared_behind lines) ≡ total → Fails fault total
unfolding declared_behind
member_fails fault front [] end total more h so_far = absurd (false≢true more)
member_fails fault front (line ∷ lines) end total more h so_far =
    fails_so fault (member_at line) total (λ at e. sym so_far ∙ (rw (no_type (is_type_line line) more, e) refl)) h

types_apart : (name : Result NameAt ℕ) (behind : Result (Members × Types) ℕ)
    → (name >>= λ n. behind >>= λ b. Ok ([], declared_type n b.0 ∷ b.1)) ≡ before_types [] (name >>= λ n. behind >>= λ b. Ok (declared_type n b.0 ∷ b.1))
types_apart (Err at) behind = refl
types_apart (Ok name) (Err at) = refl
types_apart (Ok name) (Ok others) = refl

members_close : (front : Members) (later : Result Types ℕ) → with_members front (before_types [] later) ≡ before_types front later
members_close front (Err at) = refl
members_close front (Ok types) = ap (λ (ms : Members). Ok (ms, types)) (append-nil front)

-- the next type's line, or the end, ends the members
pub members_end : (front : Members) (lines : List PlacedLine) → has_member lines ≡ false → with_members front (declared_behind lines) ≡ before_types front (declared_by lines)
unfolding declared_behind declared_by
members_end front [] last = ap (λ (ms : Members). Ok (ms, [])) (append-nil front)
members_end front (line ∷ lines) last =
    rw (a_type (is_type_line line) last) (ap (with_members front) (types_apart (type_name_at line) (declared_behind lines)) ∙ members_close front _)

-- ---- types

abbrev pub with_types : Types → Result Types ℕ → Result Types ℕ
with_types front later = later >>= λ types. Ok (front ++ types)

pub types_begin : (later : Result Types ℕ) → with_types [] later ≡ later
types_begin (Err at) = refl
types_begin (Ok types) = refl

types_regroup : (front : Types) (ty : TypeDeclaration) (later : Result Types ℕ) → with_types front (before_others ty later) ≡ with_types (front ++ ty ∷ []) later
types_regroup front ty (Err at) = refl
types_regroup front ty (Ok types) = ap (λ (ts : Types). Ok ts) (sym (append_assoc front (ty ∷ []) types))

declares : (name : NameAt) (members : Members) (later : Result Types ℕ)
    → (before_types members later >>= λ b. Ok (declared_type name b.0 ∷ b.1)) ≡ before_others (declared_type name members) later
declares name members (Err at) = refl
declares name members (Ok types) = refl

-- the line of a type has a fault
pub name_fails : (fault : TextFault) (lines : List PlacedLine) (end : ℕ) → IsTrue (has_line lines) → Fails fault (line_at (ahead lines end) >>= type_name_at) → Fails fault (declared_by lines)
unfolding declared_by
name_fails fault [] end more h = absurd (false≢true more)
name_fails fault (line ∷ lines) end more h =
    fails_so fault (type_name_at line) (declared_by (line ∷ lines)) (λ at e. rw e refl) h

-- a line behind it has one
pub behind_fails : (fault : TextFault) (lines : List PlacedLine) (end : ℕ) (left : List PlacedLine) (name : NameAt) → IsTrue (has_line lines) → (line_at (ahead lines end) >>= type_name_at) ≡ Ok name → left ≡ drop 1 lines → Fails fault (declared_behind left)
    → Fails fault (declared_by lines)
unfolding declared_by
behind_fails fault [] end left name more h same k = absurd (false≢true more)
behind_fails fault (line ∷ lines) end left name more h same k =
    fails_so fault (declared_behind left) (declared_by (line ∷ lines)) (λ at e. rw (h, sym (ap declared_behind same) ∙ e) refl) k

-- a type with its members
pub type_found : (lines : List PlacedLine) (end : ℕ) (left rest : List PlacedLine) (name : NameAt) (members : Members) → IsTrue (has_line lines) → (line_at (ahead lines end) >>= type_name_at) ≡ Ok name → left ≡ drop 1 lines
    → (declared_behind left ≡ before_types members (declared_by rest)) × (length rest ≤ length left)
    → (declared_by lines ≡ before_others (declared_type name members) (declared_by rest)) × (length rest < length lines)
unfolding declared_by
type_found [] end left rest name members more h same k = absurd (false≢true more)
type_found (line ∷ lines) end left rest name members more h same k =
    let behind : declared_behind lines ≡ before_types members (declared_by rest) = sym (ap declared_behind same) ∙ k.0 in
    let count : length left ≡ length lines = ap length same in
    (rw (h, behind) (declares name members (declared_by rest)), omega (arith, k.1))

pub type_taken : (front : Types) (lines rest : List PlacedLine) (ty : TypeDeclaration) → declared_by lines ≡ before_others ty (declared_by rest)
    → with_types front (declared_by lines) ≡ with_types (front ++ ty ∷ []) (declared_by rest)
type_taken front lines rest ty h = ap (with_types front) h ∙ types_regroup front ty (declared_by rest)

pub types_fail : (fault : TextFault) (front : Types) (part total : Result Types ℕ) → Fails fault part → with_types front part ≡ total → Fails fault total
types_fail fault front part total h so_far = fails_so fault part total (λ at e. sym so_far ∙ ap (with_types front) e) h

pub types_end : (front : Types) (lines : List PlacedLine) → has_line lines ≡ false → with_types front (declared_by lines) ≡ Ok front
unfolding declared_by
types_end front [] last = ap (λ (ts : Types). Ok ts) (append-nil front)
types_end front (line ∷ lines) last = absurd (false≢true (sym last))

-- ---- the whole answer

-- a fault of the words is the text's
pub words_fault : (words : TextFault) (read : Result Types ℕ) → Fails words read → IsOrMemory (Err (fault_of_words words)) (schema_of read)
words_fault (texts.Syntax at) read h = inr (ap schema_of h)
words_fault texts.OutOfMemory read h = inl refl

-- what is so of a value that reading gives is so of the value given
pub given_only : {A : Type 0} {P : A → Type 0} (result read : Result A SchemaFault) → IsOrMemory result read → ((x : A) → read ≡ Ok x → P x) → IfOk result P
given_only (Ok x) read h law = law x h
given_only (Err fault) read h law = tt

-- the value that reading gives is given, unless memory ran out
pub given_or_memory : {A : Type 0} (result read : Result A SchemaFault) (x : A) → IsOrMemory result read → read ≡ Ok x → (result ≡ Ok x) ⊎ (result ≡ Err faults.OutOfMemory)
given_or_memory (Ok y) read x h e = inl (sym h ∙ e)
given_or_memory (Err fault) read x h e =
    elim h [
      | inl memory ↦ inr (ap (λ (f : SchemaFault). Err f) memory)
      | inr failed ↦ absurd cc
    ]
