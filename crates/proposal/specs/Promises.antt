-- What the answers of the code mean, and what `propose` ensures. Assumes nothing.
use Rattle.std.specs.Prelude.{ℕ, ◌-◌, ◌≡◌, [], map, length, take, drop, replicate, Result, Ok, Err, IfOk}
use Rattle.map.specs.Answers.{fault_number}
use Rattle.search.specs.Proposal.{kind_number}
use Rattle.proposal.specs.declared.Gets as got
use Rattle.proposal.specs.declared.Gets.TheVariants as gets
use Rattle.proposal.specs.declared.AreaAnswer.{AreaAnswer}
use Rattle.proposal.specs.declared.ProposalRefusal.{ProposalRefusal}
use Rattle.proposal.specs.declared.ProposalRefusal.TheVariants.{Map, TooMany}
use Rattle.proposal.specs.declared.answer.Proposal as proposed
use Rattle.proposal.specs.Answer.{Gets, gets_nothing, gets_whole, gets_rounded_up, gets_share, Given, Proposal}

-- "what it gets (nothing, whole, rounded up, or share with its amount)"
abbrev pub gets_means : got.Gets → Gets
gets_means gets.Nothing = gets_nothing
gets_means gets.Whole = gets_whole
gets_means gets.RoundedUp = gets_rounded_up
gets_means (gets.Share w) = gets_share w.0

-- "for each map area its whole blocks and what it gets", with "the sum of cells for each map area"
abbrev pub area_means : AreaAnswer → Given
area_means a = record { number = a.number; blocks = a.blocks; cells = a.cells.0; gets = gets_means a.gets }

-- the number of a refusal: "Proposal: 1 to 5, 12"
abbrev pub refusal_number : ProposalRefusal → ℕ
refusal_number (Map f) = fault_number f
refusal_number TooMany = 12

unfoldable pub means : proposed.Proposal → Proposal
means r = record {
  refused = 0;
  kind = kind_number r.kind;
  target = r.target.0;
  white = r.white_space.0;
  tied = r.tied;
  areas = map area_means (take r.count r.areas);
}

-- a refusal has nothing beside its number
abbrev pub answer_means : Result proposed.Proposal ProposalRefusal → Proposal
answer_means (Err r) = record { refused = refusal_number r; kind = 0; target = 0; white = 0; tied = 0; areas = [] }
answer_means (Ok r) = means r

-- what stands at an entry past the map's areas
abbrev pub blank : AreaAnswer
blank = record { number = 0; blocks = 0; cells = record { 0 = 0 }; gets = gets.Nothing }

-- "What a contract pins": `count` is the number of the proposal's areas, and every entry past them is blank
pub record Laid (p : Proposal) (r : proposed.Proposal) : Type 0 where
  pub count : r.count ≡ length p.areas
  pub past : drop r.count r.areas ≡ replicate (32 - r.count) blank

-- the answer means the proposal of the definitions
pub record Answers (p : Proposal) (r : Result proposed.Proposal ProposalRefusal) : Type 0 where
  pub meaning : answer_means r ≡ p
  pub laid : IfOk r (Laid p)
