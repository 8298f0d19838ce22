use Rattle.std.proofs.Common.{◌≡◌, ◌∙◌, ℕ, List, to_z, of_z, ap, arith}
use Rattle.std.specs.Int.{w64, cast_signed}
use Rattle.std.specs.List.{between}
use Rattle.std.proofs.lemmas.Int.{ints, to_z-of_z}
use Rattle.std.proofs.lemmas.Slice.{between_to_end}
use Rattle.byteorder.specs.Endian.{little_number}
use Rattle.ostore_base.specs.declared.page.TheConstants.{PAGE_SIZE}
use Rattle.ostore_page_tags.proofs.numbers.get_i64.Goals as goal

pub returns : goal.returns
returns c =
    let bytes = c.args.image.now.bytes in
    let same : to_z w64 (of_z w64 c.read_i64.result) ≡ c.read_i64.result = to_z-of_z w64 c.read_i64.result (omega (arith, ints)) in
    let read : c.read_i64.result ≡ cast_signed w64 (little_number 8 (between c.args.at PAGE_SIZE bytes)) = c.read_i64.ensures in
    same ∙ read ∙ ap (λ (xs : List ℕ). cast_signed w64 (little_number 8 xs)) (between_to_end bytes c.args.at PAGE_SIZE (omega arith))
