use Rattle.std.proofs.Common.{◌≡◌, ◌+◌, ◌*◌, ◌++◌, ◌∷◌, [], ℕ, drop, flat_map, refl, sym, ◌∙◌, ap, arith, length-drop}
use Rattle.ostore_base.specs.Disk.{replaced}
use Rattle.ostore_redo_journal.specs.Records.{page_bytes, head_bytes, pages_of}
use Rattle.ostore_redo_journal.proofs.RoundTrips.{pages_counted, pages_whole}
use Rattle.ostore_redo_journal.proofs.Stored.{spelled, kept, as_long}
use Rattle.ostore_redo_journal.proofs.encode.seal_slice.Goals as goal

pub returns-clause-pages : goal.returns-clause-pages
returns-clause-pages c =
    let k = c.args.count in
    let bytes = c.args.bytes.now in
    let head = head_bytes c.args.generation c.args.number c.args.client.0 c.args.ordinal k in
    let is : c.put_bytes.new.bytes ≡ replaced (21 + 4100 * k) (0 ∷ []) (replaced 1 head bytes) =
    c.put_bytes.ensures ∙ (λ i. replaced (c.requires.end i) (0 ∷ []) (c.put_head.ensures i)) in
    kept k bytes head c.put_bytes.new.bytes (omega (arith, c.requires.inside, c.requires.end)) refl is

pub returns-clause-size : goal.returns-clause-size
returns-clause-size c =
    let k = c.args.count in
    let bytes = c.args.bytes.now in
    let head = head_bytes c.args.generation c.args.number c.args.client.0 c.args.ordinal k in
    let is : c.put_bytes.new.bytes ≡ replaced (21 + 4100 * k) (0 ∷ []) (replaced 1 head bytes) =
    c.put_bytes.ensures ∙ (λ i. replaced (c.requires.end i) (0 ∷ []) (c.put_head.ensures i)) in
    as_long k bytes head c.put_bytes.new.bytes (omega (arith, c.requires.inside, c.requires.end)) refl is

pub returns-clause-whole : goal.returns-clause-whole
returns-clause-whole c =
    pages_whole c.args.count (drop 21 c.args.bytes.now) (omega (arith, c.requires.inside, c.requires.end, length-drop 21 c.args.bytes.now))

pub returns-clause-spelled : goal.returns-clause-spelled
returns-clause-spelled c =
    let k = c.args.count in
    let bytes = c.args.bytes.now in
    let head = head_bytes c.args.generation c.args.number c.args.client.0 c.args.ordinal k in
    let rest = flat_map page_bytes (pages_of k (drop 21 bytes)) ++ 0 ∷ [] in
    let is : c.put_bytes.new.bytes ≡ replaced (21 + 4100 * k) (0 ∷ []) (replaced 1 head bytes) =
    c.put_bytes.ensures ∙ (λ i. replaced (c.requires.end i) (0 ∷ []) (c.put_head.ensures i)) in
    spelled k bytes head c.put_bytes.new.bytes (omega (arith, c.requires.inside, c.requires.end)) refl is c.args.end c.requires.end c.are_bytes.ensures
    ∙ ap (λ (n : ℕ). head_bytes c.args.generation c.args.number c.args.client.0 c.args.ordinal n ++ rest) (sym (pages_counted k (drop 21 bytes)))
