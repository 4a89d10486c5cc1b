-- The figures of a sequence chart, as elements of SVG. Names, numbers and words of events are all
-- the texts in it, and none of these ends one.
use Rattle.std.specs.Fmt.{decimal}
use Rattle.std.specs.Prelude.{List, [], codes, ℕ, ◌++◌}
use Rattle.bip_partition.specs.Plans.{Planned}
use Rattle.bip_sequence.specs.Deeds.{deed_text}
use Rattle.bip_sequence.specs.Lifelines.{brief_text}
use Rattle.bip_sequence.specs.declared.deeds.Deed.TheVariants as deed
use Rattle.bip_sequence.specs.declared.deeds.Deed.{Deed}
use Rattle.bip_sequence.specs.declared.figures.Mark.TheVariants as mark
use Rattle.bip_sequence.specs.declared.figures.Mark.{Mark}
use Rattle.bip_sequence.specs.declared.figures.Point.{Point}
use Rattle.bip_sequence.specs.declared.lifelines.Brief.TheVariants.{Granted, Notify, Offer, Refused}
use Rattle.bip_sequence.specs.declared.lifelines.Brief.TheVariants.{Request}
use Rattle.bip_sequence.specs.declared.lifelines.Brief.{Brief}
use Rattle.bip_sequence.specs.declared.lifelines.Lifeline.TheVariants.{Class, Component, Outside}
use Rattle.bip_sequence.specs.declared.lifelines.Lifeline.TheVariants.{Station}
use Rattle.bip_sequence.specs.declared.lifelines.Lifeline.{Lifeline}

-- a number behind a text
unfoldable pub with_number : List ℕ → ℕ → List ℕ
with_number front n = front ++ decimal n

-- two numbers between texts
unfoldable pub paired : List ℕ → ℕ → List ℕ → ℕ → List ℕ → List ℕ
paired front x middle y back = with_number front x ++ (with_number middle y ++ back)

-- a line from a point to another, between texts
unfoldable pub segment : List ℕ → Point → Point → List ℕ → List ℕ
segment front from to back =
    paired front from.x (codes " ") from.y (codes "L") ++ paired [] to.x (codes " ") to.y back

-- the line of a lifeline
abbrev pub line_front : Lifeline → List ℕ
line_front Outside = codes "<path d=\"M"
line_front (Component c) = codes "<path class=\"component\" d=\"M"
line_front (Class k) = codes "<path class=\"class\" d=\"M"
line_front (Station s) = codes "<path class=\"station\" d=\"M"

unfoldable pub line_text : Lifeline → Point → Point → List ℕ
line_text lifeline from to = segment (line_front lifeline) from to (codes "\"/>\n")

-- the arrow of a message, which shows the message to who points at it
abbrev pub arrow_front : Brief → List ℕ
arrow_front (Offer c n k) = codes "<path class=\"offer\" d=\"M"
arrow_front (Request k a n) = codes "<path class=\"request\" d=\"M"
arrow_front (Granted k a n) = codes "<path class=\"granted\" d=\"M"
arrow_front (Refused k a n) = codes "<path class=\"refused\" d=\"M"
arrow_front (Notify c n port) = codes "<path class=\"notify\" d=\"M"

unfoldable pub titled : Planned → Brief → List ℕ
titled p brief = brief_text p brief ++ codes "</title></path>\n"

unfoldable pub flight_text : Planned → Brief → Point → Point → List ℕ
flight_text p brief from to =
    segment (arrow_front brief) from to (codes "\"><title>") ++ titled p brief

-- how what an event did is marked: a grant, a refusal, something else that was done, what moved
-- inside the bank, or nothing
abbrev pub mark_of : Deed → Mark
mark_of (deed.Granted a) = mark.Grant
mark_of (deed.Refused a) = mark.Refusal
mark_of deed.Held = mark.Done
mark_of deed.Submitted = mark.Done
mark_of deed.Told = mark.Done
mark_of deed.Dropped = mark.Done
mark_of deed.Moved = mark.Done
mark_of deed.Spent = mark.Done
mark_of deed.Sent = mark.Done
mark_of deed.Shared = mark.Shared
mark_of other = mark.Nothing

abbrev pub mark_front : Mark → List ℕ
mark_front mark.Grant = codes "<g class=\"grant\" transform=\"translate("
mark_front mark.Refusal = codes "<g class=\"refusal\" transform=\"translate("
mark_front mark.Done = codes "<g class=\"done\" transform=\"translate("
mark_front mark.Shared = codes "<g class=\"shared\" transform=\"translate("
mark_front mark.Nothing = codes "<g class=\"nothing\" transform=\"translate("

-- a grant full, a refusal crossed, and the front of the word beside it
abbrev pub mark_figure : Mark → List ℕ
mark_figure mark.Grant = codes "<circle r=\"6\"/><text x=\"9\" y=\"-2\">"
mark_figure mark.Refusal =
    codes "<circle r=\"6\"/><path d=\"M-4-4L4 4M4-4L-4 4\"/><text x=\"9\" y=\"-2\">"
mark_figure mark.Done = codes "<circle r=\"3\"/><text x=\"6\" y=\"11\">"
mark_figure mark.Shared = codes "<path d=\"M-5 0L0-5L5 0L0 5z\"/><text x=\"8\" y=\"-2\">"
mark_figure mark.Nothing = codes "<path d=\"M-3-3L3 3M3-3L-3 3\"/><text x=\"6\" y=\"11\">"

unfoldable pub mark_text : Planned → Deed → Point → List ℕ
mark_text p deed at =
    paired (mark_front (mark_of deed)) at.x (codes " ") at.y (codes ")\">")
    ++ (mark_figure (mark_of deed) ++ (deed_text p.model deed ++ codes "</text></g>\n"))
