-- The laws that rest on a definition which a must-fail edit changes: such an edit counts only where no law in specs/ rests on it. Folders by subject,
-- as in specs/.
pub mod CflIn
pub mod Judging
pub mod Lyndon
pub mod Places
pub mod Repetitions
pub mod Stretches
pub mod Table
