-- The tables of specs/Examples come out right: coverage and blocks evaluated on each case. Assumes nothing.
use mathlib.Core.Path.{◌≡◌, refl}
use mathlib.Core.Bool.{true}
use Rattle.map.specs.Answers.{locate}
use Rattle.coverage.specs.Blocks.{remainder, rounds_up, whole_blocks, partial, value, size, blocks_of}
use Rattle.coverage.specs.Answers.{coverage_at, blocks_at}
use Rattle.coverage.specs.Examples.{blocks_right, blocks_rows, cover_right, cover_rows, answers_right}

pub blocks-right : blocks_right blocks_rows ≡ true
unfolding blocks_of whole_blocks partial rounds_up value size remainder
blocks-right = refl

pub cover-right : cover_right cover_rows ≡ true
cover-right = refl

pub answers-right : answers_right ≡ true
unfolding coverage_at blocks_at locate blocks_of whole_blocks partial rounds_up value size remainder
answers-right = refl
