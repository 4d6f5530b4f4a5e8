mod StartSteps
