-- A reading that leaves the body where it stands, as C is told of it: l is what it is lent, k what it leaves. Assumes nothing.
use Rattle.format.specs.Bytes.{Bytes}
use Rattle.format.specs.Refusals.{Out}
use Rattle.format.specs.Message.{Header}
use Rattle.format.specs.Reading.{read_header}
use Rattle.format.specs.Layout.{Lent}
use Rattle.read.specs.Heads.{HeadRead}
use Rattle.cpim.specs.declared.answers.HeadAnswer.{HeadAnswer}

abbrev pub HeadParsedWith : (Bytes → Out Header) → Bytes → Lent → Lent → HeadAnswer → Type 0
HeadParsedWith reader t l k r = HeadRead reader t l k (record { number = r.number; carried = r.carried }) r.in_text r.start

abbrev pub HeadParsed : Bytes → Lent → Lent → HeadAnswer → Type 0
HeadParsed t l k r = HeadParsedWith read_header t l k r
