use Rattle.acn_layout.proofs.coding.put_coding.Goals as goal

pub returns-in-Range : goal.returns-in-Range
returns-in-Range g c = rw c.in-Range.is c.put_range.ensures

pub returns-in-CountedFrom : goal.returns-in-CountedFrom
returns-in-CountedFrom g c = rw c.in-CountedFrom.is c.put_word.ensures

pub returns-in-CountedSigned : goal.returns-in-CountedSigned
returns-in-CountedSigned g c = rw c.in-CountedSigned.is c.put_word-in-CountedSigned.ensures

pub returns-in-PosInt : goal.returns-in-PosInt
returns-in-PosInt g c = rw c.in-PosInt.is c.put_width.ensures

pub returns-in-Twos : goal.returns-in-Twos
returns-in-Twos g c = rw c.in-Twos.is c.put_width-in-Twos.ensures

pub returns-in-Bcd : goal.returns-in-Bcd
returns-in-Bcd g c = rw c.in-Bcd.is c.put_width-in-Bcd.ensures

pub returns-in-BcdEnded : goal.returns-in-BcdEnded
returns-in-BcdEnded g c = rw c.in-BcdEnded.is c.put_word-in-BcdEnded.ensures

pub returns-in-Ascii : goal.returns-in-Ascii
returns-in-Ascii g c = rw c.in-Ascii.is c.put_width-in-Ascii.ensures

pub returns-in-AsciiEnded : goal.returns-in-AsciiEnded
returns-in-AsciiEnded g c = rw c.in-AsciiEnded.is c.put_word-in-AsciiEnded.ensures

pub returns-in-Flag : goal.returns-in-Flag
returns-in-Flag g c = rw c.in-Flag.is c.put_flag.ensures

pub returns-in-Fixed : goal.returns-in-Fixed
returns-in-Fixed g c = rw c.in-Fixed.is c.put_pattern.ensures
