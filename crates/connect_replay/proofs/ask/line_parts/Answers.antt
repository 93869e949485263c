use Rattle.std.proofs.Common.{◌∷◌, []}
use Rattle.std.specs.List.{join_with_byte}
use Rattle.std.specs.Prelude.{codes}
use Rattle.connect_replay.proofs.Lines.{ask_plain, range_plain}
use Rattle.connect_replay.proofs.ask.line_parts.Goals as goal

pub returns-in_err-_ask : goal.returns-in_err-_ask
returns-in_err-_ask c = λ name start end step name_plain start_plain end_plain step_plain is.
    absurd (c.in_err-_ask.ensures (codes "ask") (join_with_byte 32 (name ∷ codes "range" ∷ start ∷ end ∷ step ∷ [])) ask_plain is)

pub returns-in_err-name : goal.returns-in_err-name
returns-in_err-name c = λ name start end step name_plain start_plain end_plain step_plain is.
    let first = c.in_ok-_ask.ensures (codes "ask") (join_with_byte 32 (name ∷ codes "range" ∷ start ∷ end ∷ step ∷ [])) ask_plain is in
    absurd (c.in_err-name.ensures name (join_with_byte 32 (codes "range" ∷ start ∷ end ∷ step ∷ [])) name_plain first.1)

pub returns-in_err-_range : goal.returns-in_err-_range
returns-in_err-_range c = λ name start end step name_plain start_plain end_plain step_plain is.
    let first = c.in_ok-_ask.ensures (codes "ask") (join_with_byte 32 (name ∷ codes "range" ∷ start ∷ end ∷ step ∷ [])) ask_plain is in
    let second = c.in_ok-name.ensures name (join_with_byte 32 (codes "range" ∷ start ∷ end ∷ step ∷ [])) name_plain first.1 in
    absurd (c.in_err-_range.ensures (codes "range") (join_with_byte 32 (start ∷ end ∷ step ∷ [])) range_plain second.1)

pub returns-in_err-start : goal.returns-in_err-start
returns-in_err-start c = λ name start end step name_plain start_plain end_plain step_plain is.
    let first = c.in_ok-_ask.ensures (codes "ask") (join_with_byte 32 (name ∷ codes "range" ∷ start ∷ end ∷ step ∷ [])) ask_plain is in
    let second = c.in_ok-name.ensures name (join_with_byte 32 (codes "range" ∷ start ∷ end ∷ step ∷ [])) name_plain first.1 in
    let third = c.in_ok-_range.ensures (codes "range") (join_with_byte 32 (start ∷ end ∷ step ∷ [])) range_plain second.1 in
    absurd (c.in_err-start.ensures start (join_with_byte 32 (end ∷ step ∷ [])) start_plain third.1)

pub returns-in_err-end : goal.returns-in_err-end
returns-in_err-end c = λ name start end step name_plain start_plain end_plain step_plain is.
    let first = c.in_ok-_ask.ensures (codes "ask") (join_with_byte 32 (name ∷ codes "range" ∷ start ∷ end ∷ step ∷ [])) ask_plain is in
    let second = c.in_ok-name.ensures name (join_with_byte 32 (codes "range" ∷ start ∷ end ∷ step ∷ [])) name_plain first.1 in
    let third = c.in_ok-_range.ensures (codes "range") (join_with_byte 32 (start ∷ end ∷ step ∷ [])) range_plain second.1 in
    let fourth = c.in_ok-start.ensures start (join_with_byte 32 (end ∷ step ∷ [])) start_plain third.1 in
    absurd (c.in_err-end.ensures end step end_plain fourth.1)

pub returns : goal.returns
returns c = λ name start end step name_plain start_plain end_plain step_plain is.
    let first = c.in_ok-_ask.ensures (codes "ask") (join_with_byte 32 (name ∷ codes "range" ∷ start ∷ end ∷ step ∷ [])) ask_plain is in
    let second = c.in_ok-name.ensures name (join_with_byte 32 (codes "range" ∷ start ∷ end ∷ step ∷ [])) name_plain first.1 in
    let third = c.in_ok-_range.ensures (codes "range") (join_with_byte 32 (start ∷ end ∷ step ∷ [])) range_plain second.1 in
    let fourth = c.in_ok-start.ensures start (join_with_byte 32 (end ∷ step ∷ [])) start_plain third.1 in
    let fifth = c.in_ok-end.ensures end step end_plain fourth.1 in
    (second.0, fourth.0, fifth.0, fifth.1)
