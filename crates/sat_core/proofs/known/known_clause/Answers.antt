use Rattle.std.proofs.Common.{◌<◌, ◌-◌, ℕ, List, length, get_or, arith, sym, ◌∙◌, subst, length-append, []}
use Rattle.std.proofs.lemmas.List.{length-map, get_or-map}
use Rattle.region_pool.specs.Clauses.{AreLiterals}
use Rattle.region_pool.specs.Log.{Line}
use Rattle.region_pool.specs.Refutation.{literals_of}
use Rattle.sat_core.proofs.known.known_clause.Goals as goal

pub returns-else-number-count-clause-literals : goal.returns-else-number-count-clause-literals
returns-else-number-count-clause-literals c =
    let log = c.args.log.now in
    let v : ℕ = c.args.clauses.now.variables in
    let at : ℕ = c.args.number - c.len-count.result in
    let long = length-append c.args.clauses.now.clauses (literals_of log) in
    let count = length-map log (λ (line : Line). line.literals) in
    let within : at < length log = omega (arith, c.len-count.ensures.len, c.requires.number) in
    let there : at < length (literals_of log) = omega arith in
    let fits : AreLiterals v (get_or (literals_of log) at []) = c.requires.fit at [] there in
    subst (λ (s : List ℕ). AreLiterals v s) (get_or-map (λ (line : Line). line.literals) log at _ [] within ∙ sym c.literals.ensures) fits
