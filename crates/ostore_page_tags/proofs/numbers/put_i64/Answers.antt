use Rattle.std.proofs.Common.{◌≡◌, ◌-◌, ◌∙◌, ℤ, to_z, of_z, ap, subst, arith}
use Rattle.std.specs.Int.{w64, cast_unsigned}
use Rattle.std.proofs.lemmas.Int.{to_z-of_z}
use Rattle.byteorder.specs.Endian.{little_bytes}
use Rattle.ostore_base.specs.declared.page.TheConstants.{PAGE_SIZE}
use Rattle.ostore_page_tags.specs.Numbers.{int_at, with_int}
use Rattle.ostore_page_tags.proofs.bytes.ImageLaws.{int_at-with_int}
use Rattle.ostore_page_tags.proofs.bytes.NumberLaws.{put_mid-replaced}
use Rattle.ostore_page_tags.proofs.numbers.put_i64.Goals as goal
use borrow.Rule.Slice.PartMut.{put_mid}

pub returns-clause-written : goal.returns-clause-written
returns-clause-written c =
    let bytes = c.args.image.now.bytes in
    let passed : to_z w64 (of_z w64 c.args.value) ≡ c.args.value = to_z-of_z w64 c.args.value c.ranges.value in
    let given = little_bytes 8 (cast_unsigned w64 (to_z w64 (of_z w64 c.args.value))) in
    subst (λ (value : ℤ). put_mid c.args.at (PAGE_SIZE - c.args.at) bytes c.write_i64.new.buf ≡ with_int c.args.at value bytes) passed
    (put_mid-replaced c.args.at (PAGE_SIZE - c.args.at) bytes given c.write_i64.new.buf (omega arith) c.write_i64.ensures)

pub returns-clause-read_back : goal.returns-clause-read_back
returns-clause-read_back c =
    ap (int_at c.args.at) (returns-clause-written c)
    ∙ int_at-with_int c.args.at c.args.value c.args.image.now.bytes c.ranges.value (omega (arith, c.image_is_whole.ensures))
