-- The part that is cut into records has no bytes over.
use Rattle.std.proofs.Common.{◌≡◌, ℕ, ◌+◌, ◌-◌, ◌*◌, ◌/◌, ◌≤◌, ◌++◌, [], List, length, take, drop, sym, ap, subst, ◌∙◌, arith}
use Rattle.std.specs.Slice.Exact.{rchunks_exact_rest, rchunks_exact_remainder, rchunks_exact_steps}
use Rattle.std.proofs.lemmas.Iterator.{YieldsList}
use Rattle.std.proofs.lemmas.List.{nil_from_length, length-take-le, length-drop}
use Rattle.vdp_tape.proofs.Top.{chunks_from_top}
use Rattle.vdp_tape.specs.StepBack.{top_records}
use Rattle.vdp_tape.proofs.step_back.top.Goals as goal

pub returns-clause-records : goal.returns-clause-records
returns-clause-records c =
    let a = c.args in
    let s = c.rchunks_exact in
    let low : ℕ = a.n - a.k in
    let bytes : List ℕ = drop (32 * low) a.tape.now in
    let rest : List ℕ = rchunks_exact_rest s.result in
    let within : 32 * a.k ≤ length bytes = omega (arith, length-drop (32 * low) a.tape.now, c.requires) in
    let cut : 32 * a.n - 32 * low ≡ 32 * a.k = omega (arith, c.requires) in
    let long : length (take (32 * a.n - 32 * low) bytes) ≡ 32 * a.k = ap (λ (j : ℕ). length (take j bytes)) cut ∙ length-take-le (32 * a.k) bytes within in
    let none : rchunks_exact_remainder s.result ≡ [] = nil_from_length _ (omega (arith, s.ensures.remainder_len, long)) in
    let all : take (32 * a.k) bytes ≡ rest = sym (ap (λ (j : ℕ). take j bytes) cut) ∙ s.ensures.parts ∙ ap (λ (l : List ℕ). l ++ rest) none in
    let count : length rest / 32 ≡ a.k = omega (arith, ap length all, length-take-le (32 * a.k) bytes within) in
    let start : low + a.k ≡ a.n = omega (arith, c.requires) in
    subst (λ (j : ℕ). YieldsList rchunks_exact_steps (λ x. x.now) s.result (top_records a.tape.now j a.k)) start
    (subst (λ (j : ℕ). YieldsList rchunks_exact_steps (λ x. x.now) s.result (top_records a.tape.now (low + j) j)) count
    (chunks_from_top a.tape.now low s.result (s.ensures.size, (a.k, sym all, within))))
