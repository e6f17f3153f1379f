use Rattle.std.proofs.Common.{sym, ap}
use Rattle.bplist_objects.specs.Words.{word_of}
use Rattle.bplist_objects.proofs.rule.rule_name.Goals as goal

pub returns-in-TooLarge : goal.returns-in-TooLarge
returns-in-TooLarge c = sym (ap word_of c.in-TooLarge.is)

pub returns-in-TooShort : goal.returns-in-TooShort
returns-in-TooShort c = sym (ap word_of c.in-TooShort.is)

pub returns-in-Magic : goal.returns-in-Magic
returns-in-Magic c = sym (ap word_of c.in-Magic.is)

pub returns-in-NoObjects : goal.returns-in-NoObjects
returns-in-NoObjects c = sym (ap word_of c.in-NoObjects.is)

pub returns-in-Top : goal.returns-in-Top
returns-in-Top c = sym (ap word_of c.in-Top.is)

pub returns-in-TableEarly : goal.returns-in-TableEarly
returns-in-TableEarly c = sym (ap word_of c.in-TableEarly.is)

pub returns-in-TableLate : goal.returns-in-TableLate
returns-in-TableLate c = sym (ap word_of c.in-TableLate.is)

pub returns-in-OffsetSize : goal.returns-in-OffsetSize
returns-in-OffsetSize c = sym (ap word_of c.in-OffsetSize.is)

pub returns-in-RefSize : goal.returns-in-RefSize
returns-in-RefSize c = sym (ap word_of c.in-RefSize.is)

pub returns-in-Length : goal.returns-in-Length
returns-in-Length c = sym (ap word_of c.in-Length.is)

pub returns-in-RefNarrow : goal.returns-in-RefNarrow
returns-in-RefNarrow c = sym (ap word_of c.in-RefNarrow.is)

pub returns-in-OffsetNarrow : goal.returns-in-OffsetNarrow
returns-in-OffsetNarrow c = sym (ap word_of c.in-OffsetNarrow.is)

pub returns-in-OffsetHigh : goal.returns-in-OffsetHigh
returns-in-OffsetHigh c = sym (ap word_of c.in-OffsetHigh.is)

pub returns-in-OffsetLow : goal.returns-in-OffsetLow
returns-in-OffsetLow c = sym (ap word_of c.in-OffsetLow.is)

pub returns-in-Marker : goal.returns-in-Marker
returns-in-Marker c = sym (ap word_of c.in-Marker.is)

pub returns-in-Count : goal.returns-in-Count
returns-in-Count c = sym (ap word_of c.in-Count.is)

pub returns-in-Extent : goal.returns-in-Extent
returns-in-Extent c = sym (ap word_of c.in-Extent.is)

pub returns-in-NotAscii : goal.returns-in-NotAscii
returns-in-NotAscii c = sym (ap word_of c.in-NotAscii.is)

pub returns-in-UidLarge : goal.returns-in-UidLarge
returns-in-UidLarge c = sym (ap word_of c.in-UidLarge.is)

pub returns-in-RefHigh : goal.returns-in-RefHigh
returns-in-RefHigh c = sym (ap word_of c.in-RefHigh.is)

pub returns-in-KeyKind : goal.returns-in-KeyKind
returns-in-KeyKind c = sym (ap word_of c.in-KeyKind.is)

pub returns-in-KeyTwice : goal.returns-in-KeyTwice
returns-in-KeyTwice c = sym (ap word_of c.in-KeyTwice.is)

pub returns-in-Circle : goal.returns-in-Circle
returns-in-Circle c = sym (ap word_of c.in-Circle.is)

pub returns-in-CertMagic : goal.returns-in-CertMagic
returns-in-CertMagic c = sym (ap word_of c.in-CertMagic.is)

pub returns-in-CertLength : goal.returns-in-CertLength
returns-in-CertLength c = sym (ap word_of c.in-CertLength.is)

pub returns-in-CertCount : goal.returns-in-CertCount
returns-in-CertCount c = sym (ap word_of c.in-CertCount.is)

pub returns-in-TopNotVouched : goal.returns-in-TopNotVouched
returns-in-TopNotVouched c = sym (ap word_of c.in-TopNotVouched.is)

pub returns-in-ChildNotVouched : goal.returns-in-ChildNotVouched
returns-in-ChildNotVouched c = sym (ap word_of c.in-ChildNotVouched.is)

pub returns-in-HeightNotLess : goal.returns-in-HeightNotLess
returns-in-HeightNotLess c = sym (ap word_of c.in-HeightNotLess.is)

pub returns-in-PathText : goal.returns-in-PathText
returns-in-PathText c = sym (ap word_of c.in-PathText.is)

pub returns-in-Overfull : goal.returns-in-Overfull
returns-in-Overfull c = sym (ap word_of c.in-Overfull.is)

pub returns-in-KeyOrder : goal.returns-in-KeyOrder
returns-in-KeyOrder c = sym (ap word_of c.in-KeyOrder.is)
