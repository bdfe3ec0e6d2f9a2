use Rattle.acn_source_report.proofs.files.put_file_fault.Goals as goal

pub returns-in-BadByte : goal.returns-in-BadByte
returns-in-BadByte g c = rw (c.in-BadByte.is) c.put_word_at.ensures

pub returns-in-Unclosed : goal.returns-in-Unclosed
returns-in-Unclosed g c = rw (c.in-Unclosed.is) c.put_word_at-in-Unclosed.ensures

pub returns-in-TooManyTokens : goal.returns-in-TooManyTokens
returns-in-TooManyTokens g c = rw (c.in-TooManyTokens.is) c.put_word_at-in-TooManyTokens.ensures

pub returns-in-TooWide : goal.returns-in-TooWide
returns-in-TooWide g c = rw (c.in-TooWide.is) c.put_word_at-in-TooWide.ensures

pub returns-in-TooDeep : goal.returns-in-TooDeep
returns-in-TooDeep g c = rw (c.in-TooDeep.is) c.put_word_at-in-TooDeep.ensures

pub returns-in-Syntax : goal.returns-in-Syntax
returns-in-Syntax g c = rw (c.in-Syntax.is) c.put_word_at-in-Syntax.ensures

pub returns-in-NoMemory : goal.returns-in-NoMemory
returns-in-NoMemory g c = rw (c.in-NoMemory.is) c.put_piece.ensures
