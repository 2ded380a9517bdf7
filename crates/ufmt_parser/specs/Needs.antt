-- What is missing where a text stops fitting.
use Rattle.std.specs.Prelude.{◌≡◌, if◌then◌else◌, Bool}
use Rattle.ufmt_parser.specs.declared.detail.Detail.{Detail}
use Rattle.ufmt_parser.specs.declared.need.Need.{Need}
use Rattle.ufmt_parser.specs.declared.parser.Parser.{Parser}

-- what a parser says to be missing where a call failed
abbrev pub need : {M : Type 0} → Parser M → Need
need parser = parser.need

-- what a parser says to be expected there in detail
abbrev pub detail_of : {M : Type 0} → Parser M → Detail
detail_of parser = parser.detail

-- a parser whose mode keeps details keeps this one; in another mode its detail is as before
abbrev pub KeepsDetail : {M : Type 0} → Bool → Parser M → Detail → Parser M → Type 0
KeepsDetail keeps old detail new = detail_of new ≡ (if keeps then detail else detail_of old)
