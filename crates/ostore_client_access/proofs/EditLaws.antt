-- What the edits of a holder are to the lists for which it may stand.
use Rattle.std.proofs.Common.{◌≡◌, ℕ, Bool, zero, suc, false, eqb, ◌+◌, ◌^◌, ◌<◌, List, length, sym, ap, subst, ◌∙◌, arith}
use Rattle.std.specs.Prelude.{Result, Ok, Err, OnOk, IsSome, Option}
use Rattle.byteorder.specs.Endian.{little_bytes}
use Rattle.ostore_base.specs.Disk.{replaced}
use Rattle.ostore_base.specs.declared.numbers.PageNo.{PageNo}
use Rattle.ostore_page_tags.specs.Numbers.{with_number}
use Rattle.ostore_relocation.specs.Places.{IsOneOf, page_pointers}
use Rattle.ostore_relocation.specs.Pointers.{stored_pointer}
use Rattle.ostore_relocation.specs.Stores.{StoresAs}
use Rattle.ostore_relocation.proofs.OutsideLaws.{has_form}
use Rattle.ostore_relocation.proofs.PointLaws.{puts_pointer}
use Rattle.ostore_client_core.specs.Cells.{HasCellsOf}
use Rattle.ostore_client_core.specs.Attempts.{home_of}
use Rattle.std.specs.Borrow.{GName}
use Rattle.std.proofs.lemmas.Bool.{false≢true}
use Rattle.ostore_schema_layout.specs.declared.schema.Schema.{Schema}
use Rattle.ostore_page_tags.specs.PageLists.{with_bytes}
use Rattle.ostore_relocation.specs.Forms.{stored_form}
use Rattle.ostore_relocation.proofs.BesideLaws.{puts_beside}
use Rattle.ostore_segments.specs.Holdings.{Stands, Becomes}
use Rattle.ostore_segments.specs.SchemaCells.{size_told}
use Rattle.ostore_segments.specs.Edits.{CanPut, PutsBesideCells, HasPointer, HasBytesInCell, stored_or_null, with_pointer_at}
use Rattle.ostore_page_service.specs.Told.{Told}
use Rattle.ostore_graph_model.specs.declared.commands.Script.{Script}
use Rattle.ostore_graph_model.specs.declared.history.Entry.{Entry}
use Rattle.ostore_client_core.specs.Clients.{ClientView}
use Rattle.ostore_client_access.specs.Accesses.{access_told, access_held}
use Rattle.ostore_client_access.specs.inside.Puts.{PutsInto}
use Rattle.ostore_client_access.proofs.BridgeLaws.{put_of_cells}
use Rattle.ostore_client_access.proofs.AlikeLaws.{pointer_cells}
use Rattle.ostore_client_access.proofs.InCellLaws.{LiesIn, lies_in, put_in_cell}
use Rattle.ostore_client_access.proofs.HomeLaws.{home_same, home_leads, home_written}
use Rattle.ostore_client_access.proofs.AccessLaws.{stands_runs, becomes_edits, owned_list, edits_put}

pub ok_map : {T F : Type 0} (P Q : Type 0) (r : Result T F) → (P → Q) → OnOk r P → OnOk r Q
ok_map P Q (Ok x) f h = f h
ok_map P Q (Err e) f h = h

pub some_bytes : (n : ℕ) → eqb n 0 ≡ false → 0 < n
some_bytes zero none = absurd (false≢true (sym none))
some_bytes (suc n) none = omega arith

-- bytes beside the cells of a page
pub edited : (a b : Script → Type 0) (t u : Told Entry) (k : Bool) (behind : List GName) (x new : ClientView) (page at : ℕ) (bytes : List ℕ) → Stands (access_held a t x) (CanPut (access_told k t x behind) page at bytes) → PutsInto a b t u x new page at bytes
    → Becomes (access_held a t x) (access_held b u new) (λ old now. now ≡ with_bytes old page at bytes)
edited a b t u k behind x new page at bytes stands p =
    let l = owned_list a b t u x new page at bytes p in
    let can = stands.each l.base l.list l.may in
    let own = p.narrows.runs.own in
    let resident = own.resident page p.entry p.there in
    let was : List ℕ = stored_form p.owned.frames.pages p.owned.schema page p.entry.image.bytes in
    let beside : PutsBesideCells (size_told p.owned.schema) at bytes was =
    subst (λ (s : Schema). PutsBesideCells (size_told s) at bytes was) (sym p.narrows.schema) (subst (PutsBesideCells (size_told x.schema) at bytes) l.bytes can.puts) in
    let put = put_of_cells p.owned.schema page at bytes was can.no_roots resident.cells beside in
    becomes_edits a b t u x new page at bytes (stands_runs a t x stands)
    (edits_put a b t u x new page at bytes bytes p (puts_beside p.owned.frames.pages p.owned.schema page at bytes p.entry.image.bytes own.frames.all resident.form put.puts) put.cells)

-- ---- pointers

-- a pointer of a page
pub pointed : (a b : Script → Type 0) (t u : Told Entry) (k : Bool) (behind : List GName) (x new : ClientView) (page at pointer : ℕ) (bytes : List ℕ) → bytes ≡ little_bytes 4 pointer → pointer < 256 ^ 4 → IsSome (home_of x pointer)
    → Stands (access_held a t x) (HasPointer (access_told k t x behind) page at) → PutsInto a b t u x new page at bytes
    → Becomes (access_held a t x) (access_held b u new) (λ old now. now ≡ with_pointer_at (stored_or_null (home_of x pointer)) page at old)
pointed a b t u k behind x new page at pointer bytes are fits leads stands p =
    let l = owned_list a b t u x new page at bytes p in
    let has = stands.each l.base l.list l.may in
    let own = p.narrows.runs.own in
    let resident = own.resident page p.entry p.there in
    let pages : List (Option PageNo) = p.owned.frames.pages in
    let schema : Schema = p.owned.schema in
    let held : List ℕ = p.entry.image.bytes in
    let was : List ℕ = stored_form pages schema page held in
    let stored : ℕ = stored_pointer pages pointer in
    let home : home_of p.owned pointer ≡ home_of x pointer = home_same x p.owned pointer p.narrows.frames leads in
    let leading : IsSome (home_of p.owned pointer) = subst IsSome (sym home) leads in
    let written : stored_or_null (home_of x pointer) ≡ stored = ap stored_or_null (sym home) ∙ home_written p.owned pointer leading in
    let there : IsOneOf at (page_pointers schema page was) =
    subst (λ (s : Schema). IsOneOf at (page_pointers s page was)) (sym p.narrows.schema) (subst (λ (b : List ℕ). IsOneOf at (page_pointers x.schema page b)) l.bytes has.pointer) in
    let form = has_form pages schema page held own.frames.all resident.form in
    let stores : StoresAs pages schema page (with_number 4 at pointer held) (with_number 4 at stored was) =
    puts_pointer pages schema page at pointer held resident.form (subst (IsOneOf at) form.places there) fits (home_leads p.owned pointer leading) in
    let cells : HasCellsOf schema page (with_number 4 at stored was) = pointer_cells schema page at stored was (form.long ∙ resident.form.whole) resident.cells there in
    subst (λ (n : ℕ). Becomes (access_held a t x) (access_held b u new) (λ old now. now ≡ with_pointer_at n page at old)) (sym written)
    (becomes_edits a b t u x new page at (little_bytes 4 stored) (stands_runs a t x stands)
    (edits_put a b t u x new page at bytes (little_bytes 4 stored) p (subst (λ (q : List ℕ). StoresAs pages schema page (replaced at q held) (with_number 4 at stored was)) (sym are) stores) cells))

-- ---- cells

-- bytes of a cell, beside its pointers
pub in_cell : (a b : Script → Type 0) (t u : Told Entry) (k : Bool) (behind : List GName) (x new : ClientView) (page offset at : ℕ) (bytes : List ℕ) → Stands (access_held a t x) (HasBytesInCell (access_told k t x behind) page offset at (length bytes)) → PutsInto a b t u x new page (offset + at) bytes
    → Becomes (access_held a t x) (access_held b u new) (λ old now. now ≡ with_bytes old page (offset + at) bytes)
in_cell a b t u k behind x new page offset at bytes stands p =
    let l = owned_list a b t u x new page (offset + at) bytes p in
    let has = stands.each l.base l.list l.may in
    let own = p.narrows.runs.own in
    let resident = own.resident page p.entry p.there in
    let was : List ℕ = stored_form p.owned.frames.pages p.owned.schema page p.entry.image.bytes in
    let lies = subst (λ (s : Schema). LiesIn s page offset at (length bytes) was) (sym p.narrows.schema) (subst (LiesIn x.schema page offset at (length bytes)) l.bytes (lies_in t k behind x page offset at (length bytes) l.list has)) in
    let put = put_in_cell p.owned.schema page offset at bytes was resident.cells lies in
    becomes_edits a b t u x new page (offset + at) bytes (stands_runs a t x stands)
    (edits_put a b t u x new page (offset + at) bytes bytes p (puts_beside p.owned.frames.pages p.owned.schema page (offset + at) bytes p.entry.image.bytes own.frames.all resident.form put.puts) put.cells)
