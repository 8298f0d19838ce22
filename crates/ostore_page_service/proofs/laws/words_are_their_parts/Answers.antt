use Rattle.ostore_page_service.proofs.SameWordLaws.{same_word}
use Rattle.ostore_page_service.proofs.laws.words_are_their_parts.Goals as goal

pub returns : goal.returns
returns c = same_word c.args.one c.args.other c.requires c.ranges.one.fits c.ranges.other.fits
