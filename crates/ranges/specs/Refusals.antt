-- The refusals: each case's number, what it is returned with, and the order of checks.
use Rattle.std.specs.Prelude.{ℕ, Bool, cond, List, codes, Some, None, Ok, Err, Option, Result}
use Rattle.ranges.specs.declared.number.RangeNumber.{RangeNumber}
use Rattle.ranges.specs.declared.refusal.Refusal.{Refusal}
use Rattle.ranges.specs.declared.refusal.Refusal.TheVariants.{CountAboveLimit, CoordinateBeyondLimits, Reversed, RunBegun, EmptyRange, RunBlank, OtherSpace, WrongLength, GuessOpen, NoGuessOpen, GuessOutOfRange, GuessNotAboveFloor, BookFull, LedgerLength, ShortScratch, WrongTotal, ShortBuffer, BadSheet}

abbrev pub number : Refusal → ℕ
number CountAboveLimit = 1
number CoordinateBeyondLimits = 2
number Reversed = 3
number RunBegun = 4
number (EmptyRange j) = 5
number RunBlank = 6
number OtherSpace = 7
number WrongLength = 8
number GuessOpen = 9
number NoGuessOpen = 10
number GuessOutOfRange = 11
number GuessNotAboveFloor = 12
number BookFull = 13
number LedgerLength = 14
number ShortScratch = 15
number WrongTotal = 16
number ShortBuffer = 17
number BadSheet = 18

abbrev pub returned_with : Refusal → Option RangeNumber
returned_with CountAboveLimit = None
returned_with CoordinateBeyondLimits = None
returned_with Reversed = None
returned_with RunBegun = None
returned_with (EmptyRange j) = Some j
returned_with RunBlank = None
returned_with OtherSpace = None
returned_with WrongLength = None
returned_with GuessOpen = None
returned_with NoGuessOpen = None
returned_with GuessOutOfRange = None
returned_with GuessNotAboveFloor = None
returned_with BookFull = None
returned_with LedgerLength = None
returned_with ShortScratch = None
returned_with WrongTotal = None
returned_with ShortBuffer = None
returned_with BadSheet = None

-- the words of a refusal
abbrev pub reason : Refusal → List ℕ
reason CountAboveLimit = codes "too many points or ranges"
reason CoordinateBeyondLimits = codes "a coordinate beyond its limits"
reason Reversed = codes "reversed ends or descending points"
reason RunBegun = codes "the run is begun already"
reason (EmptyRange j) = codes "a range holds no point"
reason RunBlank = codes "the run is blank"
reason OtherSpace = codes "the space is not the run's"
reason WrongLength = codes "a buffer has the wrong length"
reason GuessOpen = codes "a guess is open"
reason NoGuessOpen = codes "no guess is open"
reason GuessOutOfRange = codes "the guess is out of range"
reason GuessNotAboveFloor = codes "the guess is not above the floor"
reason BookFull = codes "the book is full"
reason LedgerLength = codes "the ledger has the wrong length"
reason ShortScratch = codes "the scratch is too short"
reason WrongTotal = codes "the total is wrong"
reason ShortBuffer = codes "the buffer is too short"
reason BadSheet = codes "the sheet is not accepted"

-- what a call answers as a number: 0 where it accepts
abbrev pub answer : {A : Type 0} → Result A Refusal → ℕ
answer (Ok a) = 0
answer (Err e) = number e

-- one line of a table of checks: refuse by e where the test holds, else go on
abbrev pub unless : {A : Type 0} → Bool → Refusal → Result A Refusal → Result A Refusal
unless bad e next = cond bad (Err e) next

-- a call's refusal, whatever it answers when it accepts
abbrev pub verdict_of : {A : Type 0} → Result A Refusal → Result Unit Refusal
verdict_of (Ok a) = Ok tt
verdict_of (Err e) = Err e
